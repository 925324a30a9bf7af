use Rattle.std.proofs.Common.{take}
use Rattle.vm_drive.specs.{Drives.items_of, Lists.HaveRoom}
use Rattle.vm_bytes_calls.specs.KeyAnswers.{HasKeyRoom, KeepsKeyAnswers}
use Rattle.vm_bytes_drive.proofs.driving.rooms_for.Given as goal

abbrev pub invariant-lists : goal.invariant-lists
invariant-lists l = HaveRoom KeepsKeyAnswers HasKeyRoom l.rooms.items (items_of (take l.calls-index l.lists))
