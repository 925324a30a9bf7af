use Rattle.vm_guard.proofs.{Groups.later-may}
use Rattle.vm_guard.proofs.Prelude.{subst, ◌<◌}
use Rattle.vm_guard.proofs.exclusive.ExclusiveGuard.release_later.Goals as goal

pub release_silently-requires-clause-page : goal.release_silently-requires-clause-page
release_silently-requires-clause-page g c = subst (λ n. c.args.self.pid < n) c.requires.ready.table.is_shape.pages c.requires.due.page

pub release_silently-requires-clause-legal : goal.release_silently-requires-clause-legal
release_silently-requires-clause-legal g c = later-may _ _ _ _ c.requires.due
