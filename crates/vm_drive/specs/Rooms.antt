-- What workers on a tree with words as keys have for their calls: room for the answers, and spans for the ranges.
use Rattle.std.specs.declared.alloc.Global.{Global}
use Rattle.std.specs.Prelude.{List, Vec, ℕ}
use Rattle.vm_map.specs.{declared.call.Call.Call, Map.Pairs}
use Rattle.vm_calls.specs.{Kept.IsRoomFor, Kept.Room, Spans.HasSpans}

-- what is kept has room for the answers to these calls
abbrev pub RoomFor : {A : Type 0} → (A → Room) → A → List Call → Type 0
RoomFor room kept calls = IsRoomFor calls (room kept)

-- there is a span for each of the calls that asks for a range, on pages of n words
abbrev pub SpansFor : ℕ → List Call → Vec (Pairs × ℕ) Global → Type 0
SpansFor n calls spans = HasSpans n calls spans.items
