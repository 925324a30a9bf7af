-- What stops a command before it does anything: the status and the line that tell it.
use Rattle.std.specs.Fmt.{decimal}
use Rattle.std.specs.Prelude.{[], ◌++◌, ◌∷◌, codes, List, ℕ}
use Rattle.vm_endings.specs.{declared.stop.Lines.Lines, declared.stop.Lines.TheVariants.Events, declared.stop.Lines.TheVariants.Script}
use Rattle.vm_endings.specs.{declared.stop.Quantity.Quantity, declared.stop.Stop.Stop}
use Rattle.vm_endings.specs.declared.stop.Quantity.TheVariants.{Fail, FirstVersion, Frames, Pages, Pairs, Words, Workers}
use Rattle.vm_endings.specs.declared.stop.Stop.TheVariants.{Length, Line, Long, Page, Shape, TooFew, Unread}

abbrev pub status_of : Stop → ℕ
status_of (Shape quantity) = 5
status_of (Unread name) = 2
status_of (Length len) = 4
status_of (Page page why) = 4
status_of (TooFew pages needed) = 4
status_of (Long lines) = 5
status_of (Line lines n) = 5

abbrev pub quantity_text : Quantity → List ℕ
quantity_text Workers = codes "workers"
quantity_text Frames = codes "frames"
quantity_text FirstVersion = codes "first-version"
quantity_text Fail = codes "fail"
quantity_text Pages = codes "pages"
quantity_text Pairs = codes "pairs"
quantity_text Words = codes "words"

abbrev pub lines_name : Lines → List ℕ
lines_name Script = codes "script"
lines_name Events = codes "events"

-- the line that tells it
abbrev pub stop_line : Stop → List ℕ
stop_line (Shape quantity) = codes "shape " ++ quantity_text quantity ++ 10 ∷ []
stop_line (Unread name) = codes "read " ++ name.now ++ 10 ∷ []
stop_line (Length len) = codes "image length " ++ decimal len ++ 10 ∷ []
stop_line (Page page why) = codes "image page " ++ decimal page ++ codes " why " ++ decimal why ++ 10 ∷ []
stop_line (TooFew pages needed) = codes "too few " ++ decimal pages ++ codes " needed " ++ decimal needed ++ 10 ∷ []
stop_line (Long lines) = lines_name lines ++ codes " long" ++ 10 ∷ []
stop_line (Line lines n) = lines_name lines ++ codes " line " ++ decimal n ++ 10 ∷ []
