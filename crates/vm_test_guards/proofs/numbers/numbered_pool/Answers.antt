use Rattle.std.proofs.Common.{[], ◌∙◌, ◌∷◌, ◌≡◌, ap, arith, length, rules}
use Rattle.vm_step.specs.Prelude.{view}
use Rattle.vm_step.proofs.Together.{numbers-length}
use Rattle.vm_test_pages.proofs.Beginnings.{each-claimed}
use Rattle.vm_test_guards.proofs.numbers.numbered_pool.Goals as goal

pub start-requires : goal.start-requires
start-requires c =
    let claimed = each-claimed 72 (2 ∷ 3 ∷ 5 ∷ 61 ∷ 63 ∷ 64 ∷ 66 ∷ 71 ∷ []) (
      omega arith,
      (
        omega arith,
        (omega arith, (omega arith, (omega arith, (omega arith, (omega arith, (omega arith, tt)))))),
      ),
    ) in
    let begins = c.in_ok-blocks.ensures.begins 72 (2 ∷ 3 ∷ 5 ∷ 61 ∷ 63 ∷ 64 ∷ 66 ∷ 71 ∷ []) in
    search (rules, claimed, begins)

pub returns-clause-parts : goal.returns-clause-parts
returns-clause-parts c =
    let many : length (view c.in_ok-start.field-0.1).fresh ≡ 4294967295 =
    ap (λ u. length u.fresh) c.in_ok-start.ensures.view ∙ numbers-length 1 4294967295 in
    omega (arith, many)
