use Rattle.vm_test_pages.proofs.Beginnings.{claimed-begin, two-long}
use Rattle.vm_test_guards.proofs.reads.two_blocks.Goals as goal

pub returns-clause-begins : goal.returns-clause-begins
returns-clause-begins c =
    let count = two-long _ _ c.push.new.self.items c.push-2.new.self.items c.in_ok-new.field-0 c.in_ok-new-2.field-0
    c.new-blocks.ensures.items c.in_ok-push.ensures.items c.in_ok-push-2.ensures.items in
    claimed-begin _ (λ _ _. tt) _ 2 c.push-2.new.self.items count
