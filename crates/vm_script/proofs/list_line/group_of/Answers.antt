use Rattle.vm_script.proofs.EventTexts.{largest}
use Rattle.vm_script.proofs.GroupLines.{are_counts, cut_group, numbers}
use Rattle.vm_script.proofs.list_line.group_of.Goals as goal

pub returns-then-ne : goal.returns-then-ne
returns-then-ne c = λ group small e.
    let k = rw ((cut_group _ _ _ group c.in-Some.ensures e).0, c.as_slice.ensures) at c.if-ne.ensures in cc

pub returns-in_default-fields_of : goal.returns-in_default-fields_of
returns-in_default-fields_of c = λ group small e. c.in_default-fields_of.ensures (numbers group)
    (are_counts largest group small) (cut_group _ _ _ group c.in-Some.ensures e).1
