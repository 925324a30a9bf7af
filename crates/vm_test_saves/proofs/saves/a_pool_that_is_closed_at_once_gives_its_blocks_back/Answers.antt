use Rattle.std.proofs.Common.{rules}
use Rattle.vm_pool.proofs.FirstPass.{first-alone}
use Rattle.vm_test_saves.proofs.saves.a_pool_that_is_closed_at_once_gives_its_blocks_back.Goals as goal

pub close-requires : goal.close-requires
close-requires g c = let whole = (first-alone _ _ _ _ _ _ _ _ c.in_ok-pool.ensures.view).0 in search (rules, whole)
