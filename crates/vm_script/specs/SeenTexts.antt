-- The text of what the events of a line saw.
use Rattle.std.specs.Fmt.{decimal}
use Rattle.std.specs.List.{AllByRecursion}
use Rattle.std.specs.Prelude.{[], ◌++◌, ◌-◌, ◌∷◌, ◌≡◌, codes, get_or, length, List, ℕ}
use Rattle.vm_event.specs.Prelude.{WORDS}
use Rattle.vm_event.specs.{declared.event.Event.Event, declared.event.Seen.Seen}
use Rattle.vm_event.specs.declared.event.Event.TheVariants.{BLoad, Claim, Clean, Clear, Dirty, Disown, Downgrade, Give}
use Rattle.vm_event.specs.declared.event.Event.TheVariants.{Hand, Install, Load, LockS, LockW, LockX, Look, Mark}
use Rattle.vm_event.specs.declared.event.Event.TheVariants.{NLoad, OLoad, Own, Raise, Read, Release, ReleaseE, RFail}
use Rattle.vm_event.specs.declared.event.Event.TheVariants.{PBLoad, PGive, PTake, Store, Take, TLoad, UnlockS, Unmark}
use Rattle.vm_event.specs.declared.event.Event.TheVariants.{Upgrade, WFail, Write}
use Rattle.vm_script.specs.{declared.event_line.EventLine.EventLine, declared.seen.Sight.Sight}
use Rattle.vm_script.specs.declared.event_line.EventLine.TheVariants.{Fill, Loads, One}
use Rattle.vm_script.specs.declared.seen.Sight.TheVariants as sights
use Rattle.vm_script.specs.Sights.{FitsSight, no_sight, seen_word, sight_text}

-- how what an event sees is told
abbrev pub sight_of : Event → Sight
sight_of (Look a p) = sights.Look
sight_of (LockX a p expects) = sights.Exchange
sight_of (LockS a p expects) = sights.Exchange
sight_of (UnlockS a p) = sights.State
sight_of (Mark a p expects) = sights.Exchange
sight_of (Unmark a p expects) = sights.Exchange
sight_of (LockW a p expects) = sights.Exchange
sight_of (Upgrade a p expects) = sights.Exchange
sight_of (Release a p) = sights.Done
sight_of (ReleaseE a p) = sights.Done
sight_of (Downgrade a p) = sights.Done
sight_of (TLoad a p) = sights.Translation
sight_of (Install a p f) = sights.Done
sight_of (Clear a p) = sights.Done
sight_of (Dirty a p) = sights.Done
sight_of (Clean a p) = sights.Done
sight_of (Load a p i) = sights.Loaded
sight_of (Store a f i w) = sights.Done
sight_of (BLoad a g) = sights.Bits
sight_of (Take a g expects mask) = sights.NumberExchange
sight_of (Give a g mask) = sights.Bits
sight_of (Read a p) = sights.Done
sight_of (RFail a p) = sights.Failed
sight_of (Write a p) = sights.Done
sight_of (WFail a p) = sights.Failed
sight_of (Raise a p) = sights.Done
sight_of (NLoad a) = sights.Next
sight_of (Claim a x n) = sights.NumberExchange
sight_of (Hand a) = sights.Place
sight_of (Own a p) = sights.Done
sight_of (Disown a p) = sights.Done
sight_of (OLoad a f) = sights.Owner
sight_of (PBLoad a g) = sights.Bits
sight_of (PTake a g expects mask) = sights.NumberExchange
sight_of (PGive a g mask) = sights.Bits

-- how what each event of a line sees is told
abbrev pub line_sight : EventLine → Sight
line_sight (One event) = sight_of event
line_sight (Fill a p f) = sights.Done
line_sight (Loads a p) = sights.Loaded

-- how many events a line is
abbrev pub events_in : EventLine → ℕ
events_in (One event) = 1
events_in (Fill a p f) = WORDS
events_in (Loads a p) = WORDS

-- each event of the line saw something, of the kind that it gives
pub record FitsLine (line : EventLine) (seen : List Seen) : Type 0 where
  pub count : length seen ≡ events_in line
  pub each : AllByRecursion (FitsSight (line_sight line)) seen

-- of 64 words the first and the last are told
abbrev pub told_text : EventLine → List Seen → List ℕ
told_text (One event) seen = sight_text (sight_of event) (get_or seen 0 no_sight)
told_text (Fill a p f) seen = codes "done"
told_text (Loads a p) seen = codes "words " ++ decimal (seen_word (get_or seen 0 no_sight)) ++ 32 ∷ decimal
    (seen_word (get_or seen (WORDS - 1) no_sight))

-- `NUMBER WHAT WAS SEEN`
abbrev pub seen_line : ℕ → EventLine → List Seen → List ℕ
seen_line number line seen = decimal number ++ 32 ∷ told_text line seen ++ 10 ∷ []
