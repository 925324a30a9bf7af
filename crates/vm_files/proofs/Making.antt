-- What the tests of a make ask for.
use Rattle.std.proofs.Common.{◌≢◌, ℕ, Bool, arith}
use Rattle.vm_words.specs.declared.Command.TheVariants as commands
use Rattle.vm_words.specs.declared.Make.{Make}
use Rattle.vm_reading.specs.from_vm_endings.declared_stop_Quantity.{Quantity}
use Rattle.vm_reading.specs.from_vm_endings.declared_stop_Stop.{Stop}
use Rattle.vm_reading.specs.from_vm_endings.declared_stop_Stop_TheVariants.{Shape, TooFew}
use Rattle.vm_reading.specs.from_vm_endings.Commands.{order_of}
use Rattle.vm_reading.specs.from_vm_endings.Limits.{words_or}
use Rattle.vm_reading.specs.from_vm_endings.Outside.{nothing_left, nowhere, Outside, Remains}
use Rattle.vm_reading.specs.from_vm_endings.Stops.{status_of}
use Rattle.vm_reading.specs.from_vm_endings.Tests.{Fails, StopsAt, here, past, room, within}

-- no test of a make is of a file, so none fails because a file was not read
number_status : (outside : Outside) (left : Remains) (quantity : Quantity) (holds : Bool) (stop : Stop)
    → Fails outside left (within quantity holds) stop → status_of stop ≢ 2
number_status outside left quantity holds (Shape other) f = λ two. absurd (omega (arith, two))
number_status outside left quantity holds _ f = absurd f

room_status : (outside : Outside) (left : Remains) (words pages pairs : ℕ) (stop : Stop)
    → Fails outside left (room words pages pairs) stop → status_of stop ≢ 2
room_status outside left words pages pairs (TooFew there wanted) f = λ two. absurd (omega (arith, two))
room_status outside left words pages pairs _ f = absurd f

-- so a make stops for another cause than that
pub make_reads_none : (make : Make) (stop : Stop) → StopsAt nowhere nothing_left (order_of (commands.Make make)) stop → status_of stop ≢ 2
make_reads_none make stop (here f) = number_status nowhere nothing_left _ _ stop f
make_reads_none make stop (past p (here f)) = number_status nowhere nothing_left _ _ stop f
make_reads_none make stop (past p (past q (here f))) = number_status nowhere nothing_left _ _ stop f
make_reads_none make stop (past p (past q (past r (here f)))) =
    room_status nowhere nothing_left (words_or make.words) make.pages make.pairs stop f
make_reads_none make stop (past p (past q (past r (past s none)))) = elim none [ ]
