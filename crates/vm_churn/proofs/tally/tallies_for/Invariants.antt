use Rattle.std.proofs.Common.{take}
use Rattle.vm_drive.specs.{Drives.items_of, Lists.HaveRoom, Rooms.RoomFor}
use Rattle.vm_churn.specs.Tallies.{StandsFor, tally_room}
use Rattle.vm_churn.proofs.tally.tallies_for.Given as goal

abbrev pub invariant-lists : goal.invariant-lists
invariant-lists l = HaveRoom StandsFor (RoomFor tally_room) l.tallies.items (items_of (take l._calls-index l.lists))
