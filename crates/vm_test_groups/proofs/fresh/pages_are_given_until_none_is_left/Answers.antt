use Rattle.std.proofs.Common.{[], rules}
use Rattle.vm_test_groups.proofs.fresh.pages_are_given_until_none_is_left.Goals as goal

pub two_passes-requires : goal.two_passes-requires
two_passes-requires g c = let begins = c.in_ok-blocks.ensures.begins 1 [] in search (rules, begins)
