-- What contracts see of the ends of a place.
use Rattle.std.specs.Arc.{arc_value}
use Rattle.vm_handover.specs.declared.ends.Giver.{Giver}
use Rattle.vm_handover.specs.declared.ends.Taker.{Taker}

-- the datum with which the place was made, and by which something is known of its value
abbrev pub giver_about : {T A : Type 0} → Giver T A → A
giver_about it = (arc_value it.place).shared.key

abbrev pub taker_about : {T A : Type 0} → Taker T A → A
taker_about it = (arc_value it.place).shared.key
