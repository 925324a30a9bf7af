use Rattle.vm_endings.specs.Outside.{with_shown, with_unread}
use Rattle.vm_reading.proofs.Found.{any-cause, any-told}
use Rattle.vm_reading.proofs.any.read_any_tree.Goals as goal

pub returns-in-Ok-clause-reads : goal.returns-in-Ok-clause-reads
returns-in-Ok-clause-reads g c = λ outside left.
    any-told (with_shown outside _) (with_unread left _) _ _ c.any_in.result c.in-Ok.ensures.whole
    (rw c.as_slice.ensures.value at c.any_in.ensures)

pub returns-in-Ok-clause-cause : goal.returns-in-Ok-clause-cause
returns-in-Ok-clause-cause g c = any-cause _ _ _ c.any_in.result c.any_in.ensures
