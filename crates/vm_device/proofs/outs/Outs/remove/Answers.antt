use Rattle.std.proofs.Common.{ap, sym, ◌∙◌}
use Rattle.vm_device.proofs.First.{none_without, removed_out}
use Rattle.vm_device.specs.Held.{outs_in}
use Rattle.vm_device.proofs.outs.Outs.remove.Goals as goal

pub returns-in-Some : goal.returns-in-Some
returns-in-Some c = ap outs_in c.remove.ensures.items ∙ removed_out _ _ _ _ (rw c.deref.ensures.value at c.in-Some.ensures)

pub returns-in_default : goal.returns-in_default
returns-in_default c = sym (none_without _ _ _ (rw c.deref.ensures.value at c.in_default.ensures))
