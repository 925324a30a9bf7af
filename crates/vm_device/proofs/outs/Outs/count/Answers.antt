use Rattle.std.proofs.Common.{sym}
use Rattle.vm_device.proofs.First.{found_count}
use Rattle.vm_device.proofs.outs.Outs.count.Goals as goal

pub returns-in-Some : goal.returns-in-Some
returns-in-Some c = sym (found_count _ _ _ _ _ (rw c.deref.ensures.value at c.in-Some.ensures) c.index.ensures)
