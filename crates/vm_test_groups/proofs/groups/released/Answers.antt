use Rattle.std.proofs.Common.{◌∙◌, refl, sym}
use Rattle.vm_test_groups.proofs.groups.released.Goals as goal
use Rattle.vm_test_groups.proofs.Released.{may-three}

pub release_group-requires-clause-may : goal.release_group-requires-clause-may
release_group-requires-clause-may g c =
    may-three _ _ _ _ _ c.requires.pages (λ t. c.requires.used (sym c.requires.ready.table.tells_is ∙ t))
    c.requires.first c.requires.second c.requires.third c.requires.home refl
