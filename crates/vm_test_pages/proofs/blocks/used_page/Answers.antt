use Rattle.std.proofs.Common.{◌∙◌, ap, arith, slice_set}
use Rattle.vm_page.specs.Pages.{all_zero}
use Rattle.vm_page.proofs.Sizes.{size_eights, size_some}
use Rattle.vm_test_pages.proofs.Used.{set-used}
use Rattle.vm_test_pages.proofs.blocks.used_page.Goals as goal

pub returns : goal.returns
returns g c = ap all_zero (c.set.ensures.words ∙ ap (λ l. slice_set l 1 1) c.zero-page.ensures) ∙ set-used g.row.N 1 1
    (let some = size_some g.row.N c.requires.sized in let eights = size_eights g.row.N c.requires.sized in
    omega (arith, some, eights)) (λ e. omega (arith, e))
