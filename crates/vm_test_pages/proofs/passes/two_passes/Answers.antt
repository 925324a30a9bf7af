use Rattle.std.proofs.Common.{rules}
use Rattle.vm_test_pages.proofs.FirstParts.{first-parts}
use Rattle.vm_test_pages.proofs.passes.two_passes.Goals as goal

pub start-requires : goal.start-requires
start-requires g c = let begins = c.requires.begins in search (rules, begins)

pub split_one-other-requires : goal.split_one-other-requires
split_one-other-requires g c = let fresh = first-parts _ _ _ c.in_ok-pool.ensures.view in search (rules, fresh)
