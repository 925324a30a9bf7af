-- What a line's events see is of the kinds that its text tells.
use Rattle.std.specs.List.{AllByRecursion, range_with_len}
use Rattle.std.proofs.Common.{[], ◌∙◌, ◌∷◌, ◌≡◌, ap, Bool, false, if◌then◌else◌, length, List, map, Ok, refl, slice_index, subst, suc}
use Rattle.std.proofs.Common.{sym, true, ℕ}
use Rattle.std.proofs.lemmas.List.FromFn.{length-map-range_with_len}
use Rattle.vm_event.specs.Prelude.{after_event, seen, sees, State}
use Rattle.vm_core.specs.Prelude.{Replayed}
use Rattle.vm_event.specs.declared.event.Event.TheVariants.{BLoad, Claim, Clean, Clear, Dirty, Disown, Downgrade, Give}
use Rattle.vm_event.specs.declared.event.Event.TheVariants.{Hand, Install, Load, LockS, LockW, LockX, Look, Mark}
use Rattle.vm_event.specs.declared.event.Event.TheVariants.{NLoad, OLoad, Own, Raise, Read, Release, ReleaseE, RFail}
use Rattle.vm_event.specs.declared.event.Event.TheVariants.{PBLoad, PGive, PTake, Store, Take, TLoad, UnlockS, Unmark}
use Rattle.vm_event.specs.declared.event.Event.TheVariants.{Upgrade, WFail, Write}
use Rattle.vm_event.specs.declared.event.Seen.{Seen}
use Rattle.vm_event.specs.declared.event.Seen.TheVariants as seens
use Rattle.vm_rule.specs.Prelude.{Event}
use Rattle.vm_script.specs.{declared.event_line.EventLine.EventLine, Sights.FitsSight}
use Rattle.vm_script.specs.declared.event_line.EventLine.TheVariants.{Fill, Loads, One}
use Rattle.vm_script.specs.SeenTexts.{events_in, FitsLine, line_sight, sight_of}
use Rattle.vm_replay.specs.Played.{events_of}

exchange_fits : (found : Bool) (word : ℕ) → FitsSight (sight_of (LockX 0 0 0)) (if found then seens.Taken else seens.Lost word)
exchange_fits true word = tt
exchange_fits false word = tt

number_fits : (found : Bool) (word : ℕ) → FitsSight (sight_of (Claim 0 0 0)) (if found then seens.Taken else seens.Lost word)
number_fits true word = tt
number_fits false word = tt

-- what one event sees is of the kind that it gives
event_fits : (c : State) (e : Event) → FitsSight (sight_of e) (seen c e)
event_fits c (Look a p) = tt
event_fits c (LockX a p expects) = exchange_fits _ _
event_fits c (LockS a p expects) = exchange_fits _ _
event_fits c (UnlockS a p) = tt
event_fits c (Mark a p expects) = exchange_fits _ _
event_fits c (Unmark a p expects) = exchange_fits _ _
event_fits c (LockW a p expects) = exchange_fits _ _
event_fits c (Upgrade a p expects) = exchange_fits _ _
event_fits c (Release a p) = tt
event_fits c (ReleaseE a p) = tt
event_fits c (Downgrade a p) = tt
event_fits c (TLoad a p) = tt
event_fits c (Install a p f) = tt
event_fits c (Clear a p) = tt
event_fits c (Dirty a p) = tt
event_fits c (Clean a p) = tt
event_fits c (Load a p i) = tt
event_fits c (Store a f i w) = tt
event_fits c (BLoad a g) = tt
event_fits c (Take a g expects mask) = number_fits _ _
event_fits c (Give a g mask) = tt
event_fits c (Read a p) = tt
event_fits c (RFail a p) = tt
event_fits c (Write a p) = tt
event_fits c (WFail a p) = tt
event_fits c (Raise a p) = tt
event_fits c (NLoad a) = tt
event_fits c (Claim a x n) = number_fits _ _
event_fits c (Hand a) = tt
event_fits c (Own a p) = tt
event_fits c (Disown a p) = tt
event_fits c (OLoad a f) = tt
event_fits c (PBLoad a g) = tt
event_fits c (PTake a g expects mask) = number_fits _ _
event_fits c (PGive a g mask) = tt

-- events whose sights are told as that of `one` are
many_fit : (one : Event) (event : ℕ → Event) → ((i : ℕ) → sight_of (event i) ≡ sight_of one)
    → (c : State) (is : List ℕ) → AllByRecursion (FitsSight (sight_of one)) (sees c (map event is))
many_fit one event same c [] = tt
many_fit one event same c (i ∷ is) = (
  subst (λ s. FitsSight s (seen c (event i))) (same i) (event_fits c (event i)),
  many_fit one event same
      (after_event c (event i)) is,
)

pub sees_count : (c : State) (es : List Event) → length (sees c es) ≡ length es
sees_count c [] = refl
sees_count c (e ∷ es) = ap suc (sees_count (after_event c e) es)

pub events_count : (c : State) (line : EventLine) → length (events_of c line) ≡ events_in line
events_count c (One event) = refl
events_count c (Fill a p f) = length-map-range_with_len (λ i. Store a f i (slice_index (c.pages p).block i)) 0 64
events_count c (Loads a p) = length-map-range_with_len (λ i. Load a p i) 0 64

each_fits : (c : State) (line : EventLine) → AllByRecursion (FitsSight (line_sight line)) (sees c (events_of c line))
each_fits c (One event) = (event_fits c event, tt)
each_fits c (Fill a p f) = many_fit (Store 0 0 0 0) (λ i. Store a f i (slice_index (c.pages p).block i)) (λ i. refl) c (range_with_len 0 64)
each_fits c (Loads a p) = many_fit (Load 0 0 0) (λ i. Load a p i) (λ i. refl) c (range_with_len 0 64)

pub line_fits : (c : State) (line : EventLine) → FitsLine line (sees c (events_of c line))
line_fits c line = record { count = sees_count c (events_of c line) ∙ events_count c line; each = each_fits c line }

-- what a replay of the line's events saw
pub replay_fits : (old new : State) (line : EventLine) (es : List Event) (seen : List Seen) → es ≡ events_of old line
    → Replayed old es (Ok seen) new → FitsLine line seen
replay_fits old new line es seen same r = subst (λ ss. FitsLine line ss) (sym (r.1 ∙ ap (sees old) same)) (line_fits old line)
