use Rattle.vm_reading.specs.from_vm_endings.Outside.{with_shown, with_unread}
use Rattle.vm_files.proofs.Giving.{check-gives, check-stops}
use Rattle.vm_files.proofs.check.run_check.Goals as goal

pub returns-in-Ok-text_of-clause-gives : goal.returns-in-Ok-text_of-clause-gives
returns-in-Ok-text_of-clause-gives g c = λ outside left.
    check-gives (with_shown outside _) (with_unread left _) c.args.check.now c.in-Ok.tree c.line.result
    c.in-Ok-text_of.text.items (c.in-Ok.ensures.reads outside left) c.in-Ok-text_of.ensures c.line.ensures

pub returns-in-Err-clause-gives : goal.returns-in-Err-clause-gives
returns-in-Err-clause-gives g c = λ outside left.
    check-stops (with_shown outside _) (with_unread left _) c.args.check.now _ (c.in-Err.ensures.reads outside left)
