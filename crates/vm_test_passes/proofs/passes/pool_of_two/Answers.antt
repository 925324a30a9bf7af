use Rattle.std.proofs.Common.{◌∙◌, ◌≡◌, ap, arith, length}
use Rattle.vm_step.specs.Prelude.{view}
use Rattle.vm_step.proofs.Together.{numbers-length}
use Rattle.vm_test_passes.proofs.passes.pool_of_two.Goals as goal

pub returns-clause-parts : goal.returns-clause-parts
returns-clause-parts c =
    let many : length (view c.in_ok-start.field-0.1).fresh ≡ 4294967295 =
    ap (λ u. length u.fresh) c.in_ok-start.ensures.view ∙ numbers-length 1 4294967295 in
    omega (arith, many)
