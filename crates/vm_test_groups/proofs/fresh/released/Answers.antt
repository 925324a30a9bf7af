use Rattle.std.proofs.Common.{◌∙◌}
use Rattle.vm_test_groups.proofs.fresh.released.Goals as goal
use Rattle.vm_test_groups.proofs.Released.{release-holds, release-keeps}

pub returns-clause-home : goal.returns-clause-home
returns-clause-home g c = (release-keeps _ _ _ _ c.requires.some c.release_group.ensures.released).2 ∙ c.requires.home

pub returns-clause-own : goal.returns-clause-own
returns-clause-own g c = release-holds _ _ _ _ _ c.requires.some c.release_group.ensures.released c.requires.own
