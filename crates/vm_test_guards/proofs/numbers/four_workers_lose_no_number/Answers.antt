use Rattle.std.proofs.Common.{◌≤◌, length, List, rules, subst, sym, ℕ}
use Rattle.vm_step.specs.Prelude.{view}
use Rattle.vm_test_guards.proofs.numbers.four_workers_lose_no_number.Goals as goal

pub rounds_and_join-requires-after_bounds : goal.rounds_and_join-requires-after_bounds
rounds_and_join-requires-after_bounds g c κs =
    let four : 4 ≤ length (view c.eight_are_free.new.pass).fresh =
    subst (λ (l : List ℕ). 4 ≤ length l) (sym c.eight_are_free.ensures.parts.fresh) c.in_ok-pool.ensures.parts in
    search (rules, four)
