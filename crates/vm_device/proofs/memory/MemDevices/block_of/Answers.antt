use Rattle.std.proofs.Common.{rules}
use Rattle.vm_device.proofs.Named.{found_file}
use Rattle.vm_device.proofs.memory.MemDevices.block_of.Goals as goal

pub returns-clause-words : goal.returns-clause-words
returns-clause-words g c =
    let there = found_file _ _ _ _ (rw c.deref.ensures.value at c.in_ok-place_of.ensures) c.index-file.ensures in rw there (search rules)
