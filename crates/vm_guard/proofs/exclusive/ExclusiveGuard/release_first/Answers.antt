use Rattle.vm_guard.proofs.{GuardSteps.first-may}
use Rattle.vm_guard.proofs.Prelude.{subst, ◌<◌}
use Rattle.vm_guard.proofs.exclusive.ExclusiveGuard.release_first.Goals as goal

pub release-requires-clause-page : goal.release-requires-clause-page
release-requires-clause-page g c = subst (λ n. c.args.self.pid < n) c.requires.ready.table.is_shape.pages c.requires.holds.page

pub release-requires-clause-legal : goal.release-requires-clause-legal
release-requires-clause-legal g c = first-may c.requires.holds c.requires.home c.requires.first
