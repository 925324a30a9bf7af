use Rattle.std.proofs.Common.{◌∙◌, ◌≡◌, ap, arith, length}
use Rattle.vm_step.specs.Prelude.{view}
use Rattle.vm_step.proofs.Together.{numbers-length}
use Rattle.vm_pool.proofs.FirstPass.{first-alone}
use Rattle.vm_test_passes.proofs.threads.eight_pages.Goals as goal

pub returns-clause-alone : goal.returns-clause-alone
returns-clause-alone g c = first-alone _ _ _ _ _ _ _ _ c.in_ok-start.ensures.view

pub returns-clause-parts : goal.returns-clause-parts
returns-clause-parts g c =
    let many : length (view c.in_ok-start.field-0.1).fresh ≡ 4294967295 =
    ap (λ u. length u.fresh) c.in_ok-start.ensures.view ∙ numbers-length 1 4294967295 in
    omega (arith, many)
