use Rattle.std.proofs.Common.{◌∙◌, ap, arith, slice_set}
use Rattle.vm_page.specs.Pages.{all_zero}
use Rattle.vm_test_pages.proofs.Used.{second-used, set-used}
use Rattle.vm_test_saves.proofs.callers.two_blocks.Goals as goal

pub returns-clause-used : goal.returns-clause-used
returns-clause-used c =
    let set = ap all_zero (c.set.ensures.words ∙ ap (λ l. slice_set l 63 5) c.zero-second.ensures)
    ∙ set-used 64 63 5 (omega arith) (λ e. omega (arith, e)) in
    second-used _ _ c.push.new.self.items _ c.in_ok-new.field-0 c.in_ok-new-2.field-0 c.new-blocks.ensures.items
    c.in_ok-push.ensures.items c.in_ok-push-2.ensures.items (ap all_zero c.in_ok-new-2.ensures.began.held ∙ set)
