use Rattle.vm_guard.proofs.{GuardSteps.gives-up, Prelude.subst, Prelude.◌<◌}
use Rattle.vm_guard.proofs.shared.SharedGuard.drop_with.Goals as goal

pub unlock_shared-requires-clause-page : goal.unlock_shared-requires-clause-page
unlock_shared-requires-clause-page g c = subst (λ n. c.args.self.pid < n) c.requires.ready.table.is_shape.pages c.requires.shares.page

pub returns-clause-given_up : goal.returns-clause-given_up
returns-clause-given_up g c = gives-up _ _ _ _ c.requires.legal.has c.unlock_shared.ensures.told
