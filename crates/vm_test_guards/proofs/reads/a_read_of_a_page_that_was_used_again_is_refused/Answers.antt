use Rattle.std.proofs.Common.{[], ◌∷◌, arith, rules}
use Rattle.vm_test_pages.proofs.Beginnings.{each-claimed}
use Rattle.vm_test_guards.proofs.reads.a_read_of_a_page_that_was_used_again_is_refused.Goals as goal

pub two_passes-requires : goal.two_passes-requires
two_passes-requires g c =
    let claimed = each-claimed 3 (1 ∷ 2 ∷ []) (omega arith, (omega arith, tt)) in
    let begins = c.in_ok-blocks.ensures.begins 3 (1 ∷ 2 ∷ []) in
    search (rules, claimed, begins)
