use Rattle.std.proofs.Common.{rules}
use Rattle.vm_device.proofs.Named.{found_file}
use Rattle.vm_device.proofs.memory.calls.MemDevicesDevices.length.Goals as goal

pub returns-clause-state : goal.returns-clause-state
returns-clause-state g c =
    let there = found_file _ _ _ _ (rw c.deref.ensures.value at c.in-Some.ensures) c.index.ensures in search (rules, there)

pub returns-clause-exact : goal.returns-clause-exact
returns-clause-exact g c =
    let there = found_file _ _ _ _ (rw c.deref.ensures.value at c.in-Some.ensures) c.index.ensures in search (rules, there)
