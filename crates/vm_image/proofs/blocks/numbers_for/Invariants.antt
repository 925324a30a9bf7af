use Rattle.std.proofs.Common.{◌≡◌, take}
use Rattle.vm_image.specs.Blocks.{numbers_for}
use Rattle.vm_image.proofs.blocks.numbers_for.Given as goal

abbrev pub invariant-loop-fault : goal.invariant-loop-fault
invariant-loop-fault l = l.numbers.items ≡ numbers_for (take l.fault-index l.plan) l.page
