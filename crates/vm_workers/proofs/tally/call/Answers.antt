use Rattle.std.proofs.Common.{inr}
use Rattle.vm_workers.proofs.Staying.{found-after, look-found, look-says, look-stays, says-on, stays-says}
use Rattle.vm_workers.proofs.tally.call.Goals as goal

pub look-requires-clause-owner : goal.look-requires-clause-owner
look-requires-clause-owner g c = inr (λ _ _ _ _ _ _ _ _. tt)

pub returns-clause-says : goal.returns-clause-says
returns-clause-says g c = says-on _ _ _ (stays-says _ _ (look-stays _ _ _ _ _ c.look_silently.ensures.told))
    (look-says _ _ _ _ _ _ c.look.ensures.told)

pub returns-clause-found : goal.returns-clause-found
returns-clause-found g c = found-after _ _ _ _ _ _ _ (look-found _ _ _ _ _ _ c.look_silently.ensures.told)
    (look-found _ _ _ _ _ _ c.look.ensures.told)
