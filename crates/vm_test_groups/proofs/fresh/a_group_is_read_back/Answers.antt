use Rattle.std.proofs.Common.{[], rules}
use Rattle.vm_test_groups.proofs.fresh.a_group_is_read_back.Goals as goal

pub two_passes-requires : goal.two_passes-requires
two_passes-requires g c = let begins = c.in_ok-blocks.ensures.begins 2 [] in search (rules, begins)
