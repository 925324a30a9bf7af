use Rattle.std.proofs.Common.{◌∙◌, ap}
use Rattle.vm_page.specs.Pages.{all_zero}
use Rattle.vm_test_pages.proofs.Used.{used-more}
use Rattle.vm_test_pages.proofs.blocks.+used_pages.Goals as goal

pub returns-clause-used : goal.returns-clause-used
returns-clause-used g t c = used-more _ c.in_ok-blocks.blocks.items _ c.in_ok-new.field-0 c.in_ok-push.ensures.items
    c.in_ok-blocks.ensures.used (ap all_zero c.in_ok-new.ensures.began.held ∙ c.used_page.ensures)
