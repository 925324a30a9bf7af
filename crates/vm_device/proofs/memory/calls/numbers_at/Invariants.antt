use Rattle.std.proofs.Common.{◌≡◌, take}
use Rattle.vm_device.specs.Memory.{numbers_at}
use Rattle.vm_device.proofs.memory.calls.numbers_at.Given as goal

abbrev pub invariant-loop-fault : goal.invariant-loop-fault
invariant-loop-fault l = l.numbers.items ≡ numbers_at (take l.fault-index l.plan) l.page
