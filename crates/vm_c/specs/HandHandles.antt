-- What a hand's handle owns.
use Rattle.std.specs.Prelude.{Option}
use base.Fml.{Fml}
use base.Stored.{Coded}
use denote.RawPtr.{Ptr}
use Rattle.std.specs.Coded.{coded_option}
use Rattle.std.specs.Global.{Global}
use Rattle.std.specs.contracts.impls.GlobalAllocator.TheImpl.{ghosts}
use Rattle.vm_handle.specs.Slots.{slot_owns}
use Rattle.vm_c.specs.contracts.opened.OpenHand.{the_row}

abbrev pub hand_owns : Global → Ptr → Option the_row.Denot → Fml
hand_owns alloc = slot_owns (ghosts.dealloc_token alloc) the_row

abbrev pub hand_coded : Coded (Option the_row.Denot)
hand_coded = coded_option the_row.coded
