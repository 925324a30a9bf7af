use Rattle.vm_block.specs.Memory.{stored_of}
use Rattle.vm_rule.proofs.Whole.{whole-each}
use Rattle.vm_test_core.proofs.rule.started.Goals as goal

pub started-requires-clause-whole : goal.started-requires-clause-whole
started-requires-clause-whole c told = whole-each stored_of 64 c.push-2.new.self.items (λ b. b.whole)
