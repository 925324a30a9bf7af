use Rattle.std.proofs.Common.{take}
use Rattle.vm_calls.specs.Compact.{KeepsAnswers, room_in}
use Rattle.vm_drive.specs.{Drives.items_of, Lists.HaveRoom, Rooms.RoomFor}
use Rattle.vm_drive.proofs.memory.rooms_for.Given as goal

abbrev pub invariant-lists : goal.invariant-lists
invariant-lists l = HaveRoom KeepsAnswers (RoomFor room_in) l.rooms.items (items_of (take l.calls-index l.lists))
