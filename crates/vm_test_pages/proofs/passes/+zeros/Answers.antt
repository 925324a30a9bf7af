use Rattle.std.proofs.Common.{◌∙◌}
use Rattle.vm_test_pages.proofs.Beginnings.{more-begins}
use Rattle.vm_test_pages.proofs.passes.+zeros.Goals as goal

pub returns-clause-begins : goal.returns-clause-begins
returns-clause-begins g t c = more-begins _ (λ _ _. tt) _ c.in_ok-blocks.blocks.items _ c.in_ok-new.field-0
    c.in_ok-push.ensures.items (c.in_ok-new.ensures.began.held ∙ c.zero.ensures) c.in_ok-blocks.ensures.begins
