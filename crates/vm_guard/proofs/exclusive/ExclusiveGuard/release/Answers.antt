use Rattle.vm_guard.proofs.GuardSteps.{alone-first, first-may, releases}
use Rattle.vm_guard.proofs.Prelude.{subst, ◌<◌}
use Rattle.vm_guard.proofs.exclusive.ExclusiveGuard.release.Goals as goal

pub release-requires-clause-page : goal.release-requires-clause-page
release-requires-clause-page g c = subst (λ n. c.args.self.pid < n) c.requires.ready.table.is_shape.pages c.requires.holds.page

pub release-requires-clause-legal : goal.release-requires-clause-legal
release-requires-clause-legal g c =
    first-may c.requires.holds c.requires.home (alone-first c.requires.holds c.requires.claimed c.requires.owner)

pub returns-clause-released : goal.returns-clause-released
returns-clause-released g c = releases _ _ _ _ _ _ _ c.requires.holds c.release.ensures.told
