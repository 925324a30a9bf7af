use Rattle.std.proofs.Common.{take}
use Rattle.vm_drive.specs.{Drives.items_of, Lists.HaveMemory, Rooms.SpansFor}
use Rattle.vm_drive.proofs.memory.spans_for.Given as goal

abbrev pub invariant-lists : goal.invariant-lists
invariant-lists g l = HaveMemory (SpansFor g.row.N) (items_of (take l.calls-index l.lists)) l.all.items
