-- What a window or a range shows.
use Rattle.std.specs.Prelude.{◌++◌, ◌<◌, ◌==◌, ◌≡◌, ◌≤◌, ◌⊎◌, drop, Err}
use Rattle.std.specs.Prelude.{if◌then◌else◌, IfSome, length, List, map, min, None, Ok}
use Rattle.std.specs.Prelude.{Option, Result, Some, ℕ}
use Rattle.vm_map.specs.{declared.call.Call.Call, declared.call.Reply.Reply, Map.Pairs}
use Rattle.vm_map.specs.declared.call.Call.TheVariants.{Range, Window}
use Rattle.vm_map.specs.declared.call.Reply.TheVariants.{Gone, Got, Many, Swapped, Was, Wide, Win}
use Rattle.vm_map.specs.declared.window.Bound.{Bound}
use Rattle.vm_map.specs.declared.window.Bound.TheVariants.{End, Key}
use Rattle.vm_face.specs.from_vm_tree_rule.declared_fault_TreeFault.{TreeFault}
use Rattle.vm_c.specs.{declared.answers.CallTold.CallTold, declared.opened.OpenHand.OpenHand, Told.HasAnswered}
use Rattle.vm_c.specs.declared.showing.{KeyValue.KeyValue, ShownPairs.ShownPairs}

-- the bound of a range that C asks for: to_end is 0 where there is one
abbrev pub bound_asked : (high to_end : ℕ) → Bound
bound_asked high to_end = if to_end == 0 then Key high else End

-- so many pairs, up to this bound
abbrev pub shown_for : Bound → ℕ → ShownPairs
shown_for (Key bound) count = record { bound = bound; count = count; ends = 0 }
shown_for End count = record { bound = 0; count = count; ends = 1 }

abbrev pub as_shown : ℕ × ℕ → KeyValue
as_shown pair = record { key = pair.0; value = pair.1 }

-- the pairs stand in front, and behind them what stood there
abbrev pub ArePairsShown : Pairs → (old new : List KeyValue) → Type 0
ArePairsShown pairs old new = new ≡ map as_shown pairs ++ drop (length pairs) old

-- there is room for the pairs of the reply
abbrev pub FitsReply : ℕ → Reply → Type 0
FitsReply room (Win window) = (length window.pairs ≤ room) × (length window.pairs ≤ 448)
FitsReply room (Many span) = (length span.0 ≤ room) × (length span.0 ≤ 448)
FitsReply room (Got value) = Unit {0}
FitsReply room (Was value) = Unit {0}
FitsReply room (Gone value) = Unit {0}
FitsReply room (Swapped outcome) = Unit {0}
FitsReply room (Wide reach) = Unit {0}

abbrev pub FitsIn : ℕ → Result (Option Reply) TreeFault → Type 0
FitsIn room (Ok (Some reply)) = FitsReply room reply
FitsIn room (Ok None) = Unit {0}
FitsIn room (Err fault) = Unit {0}

-- the pairs of the reply are shown, up to the window's bound or this one of a range; of another reply nothing is
abbrev pub ShowsReply : Bound → Reply → (old new : List KeyValue) → (had has : ShownPairs) → Type 0
ShowsReply bound (Win window) old new had has =
    ArePairsShown window.pairs old new × (has ≡ shown_for window.bound (length window.pairs))
ShowsReply bound (Many span) old new had has = ArePairsShown span.0 old new × (has ≡ shown_for bound (length span.0))
ShowsReply bound (Got value) old new had has = (new ≡ old) × (has ≡ had)
ShowsReply bound (Was value) old new had has = (new ≡ old) × (has ≡ had)
ShowsReply bound (Gone value) old new had has = (new ≡ old) × (has ≡ had)
ShowsReply bound (Swapped outcome) old new had has = (new ≡ old) × (has ≡ had)
ShowsReply bound (Wide reach) old new had has = (new ≡ old) × (has ≡ had)

abbrev pub Shows : Bound → Result (Option Reply) TreeFault → (old new : List KeyValue) → (had has : ShownPairs) → Type 0
Shows bound (Ok (Some reply)) old new had has = ShowsReply bound reply old new had has
Shows bound (Ok None) old new had has = (new ≡ old) × (has ≡ had)
Shows bound (Err fault) old new had has = (new ≡ old) × (has ≡ had)

-- the hand made this call, and what C gets is of its answer
pub record HasShown (call : Call) (bound : Bound) (before after : OpenHand) (number : ℕ) (told : CallTold) (old new : List KeyValue)
    (had has : ShownPairs) : Type 0 where
  pub answered : HasAnswered call before after number told
  pub shows : Shows bound answered.answer old new had has

-- what C gets beside the number
pub record ToldAndShown : Type 0 where
  pub told : CallTold
  pub pairs : List KeyValue
  pub shown : ShownPairs

abbrev pub outs : CallTold → List KeyValue → ShownPairs → ToldAndShown
outs told pairs shown = record { told = told; pairs = pairs; shown = shown }

-- the call was made, and the handle has the hand
abbrev pub ShowsCall : Call → Bound → OpenHand → Option OpenHand → ℕ → ToldAndShown → ToldAndShown → Type 0
ShowsCall call bound before back number old new =
    IfSome back (λ after. HasShown call bound before after number new.told old.pairs new.pairs old.shown new.shown)

-- nothing has happened
abbrev pub IsLeftAsItWas : OpenHand → Option OpenHand → ToldAndShown → ToldAndShown → Type 0
IsLeftAsItWas before back old new = (back ≡ Some before) × (new ≡ old)

-- 14 where no pair is asked for, or there is too little room for as many as are asked for, or 28; else the call is made
abbrev pub ShowsWindow : (start most : ℕ) → OpenHand → Option OpenHand → (number : ℕ) → ToldAndShown → ToldAndShown → Type 0
ShowsWindow start most before back number old new =
    (((most ≡ 0) ⊎ (length old.pairs < min most 28)) × (number ≡ 14) × IsLeftAsItWas before back old new)
    ⊎ ((1 ≤ most) × (min most 28 ≤ length old.pairs) × ShowsCall (Window start most) End before back number old new)

-- 14 where there is too little room for 448 pairs, 10 where there is no memory for them; else the call is made
abbrev pub ShowsRange : (low : ℕ) → Bound → OpenHand → Option OpenHand → (number : ℕ) → ToldAndShown → ToldAndShown → Type 0
ShowsRange low bound before back number old new =
    ((length old.pairs < 448) × (number ≡ 14) × IsLeftAsItWas before back old new)
    ⊎ ((448 ≤ length old.pairs) × (number ≡ 10) × IsLeftAsItWas before back old new)
    ⊎ ((448 ≤ length old.pairs) × ShowsCall (Range low bound) bound before back number old new)
