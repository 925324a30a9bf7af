use Rattle.vm_guard.proofs.GuardSteps.{downgrades, may-downgrade}
use Rattle.vm_guard.proofs.Prelude.{subst, ◌<◌}
use Rattle.vm_guard.proofs.exclusive.ExclusiveGuard.downgrade.Goals as goal

pub downgrade-requires-clause-page : goal.downgrade-requires-clause-page
downgrade-requires-clause-page g c = subst (λ n. c.args.self.pid < n) c.requires.ready.table.is_shape.pages c.requires.holds.page

pub downgrade-requires-clause-legal : goal.downgrade-requires-clause-legal
downgrade-requires-clause-legal g c = may-downgrade _ _ _ _ _ _ c.requires.holds c.requires.home c.requires.claimed c.requires.owner

pub returns-clause-downgraded : goal.returns-clause-downgraded
returns-clause-downgraded g c = downgrades _ _ _ _ _ _ c.requires.holds c.downgrade.ensures.told
