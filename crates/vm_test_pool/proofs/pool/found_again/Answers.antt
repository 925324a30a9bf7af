use Rattle.std.proofs.Common.{◌∙◌, ap, arith, map, rules}
use Rattle.vm_page.specs.Pages.{all_zero}
use Rattle.vm_rule.specs.Prelude.{Stored, stored_of}
use Rattle.vm_rule.proofs.ListFacts.{length-mapped}
use Rattle.vm_test_pool.proofs.pool.found_again.Goals as goal

-- the page is in use, as its block began
pub round_trip-word-requires : goal.round_trip-word-requires
round_trip-word-requires g c =
    let items = c.in_ok-blocks.blocks.items in
    let count = c.in_ok-blocks.ensures.count in
    let long = length-mapped (λ (b : Stored). b.words) (map stored_of items) in
    let mapped = length-mapped stored_of items in
    let used = ap all_zero (c.in_ok-pool.ensures.words 1 (omega (arith, count))) ∙ c.in_ok-blocks.ensures.used 1
    (omega (arith, count, long, mapped)) in
    search (rules, used)
