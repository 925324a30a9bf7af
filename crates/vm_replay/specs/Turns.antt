-- The turn of one line.
use Rattle.std.specs.Prelude.{◌++◌, ◌≡◌, ◌≤◌, length, List, ℕ}
use Rattle.vm_event.specs.Prelude.{AllLegal, run, sees, State, WORDS}
use Rattle.vm_script.specs.{declared.event_line.EventLine.EventLine, SeenTexts.seen_line}
use Rattle.vm_replay.specs.{declared.line.LineTurn.LineTurn, declared.line.LineTurn.TheVariants.Done}
use Rattle.vm_replay.specs.{declared.line.LineTurn.TheVariants.Illegal, Played.events_of, Played.illegal_line}

-- so many events were done and told behind the text before, and led to the new state
pub record IsLinePlayed (old : State) (number : ℕ) (line : EventLine) (before : List ℕ) (count : ℕ) (new : State)
    (text : List ℕ) : Type 0 where
  pub legal : AllLegal old (events_of old line)
  pub state : new ≡ run old (events_of old line)
  pub told : text ≡ before ++ seen_line number line (sees old (events_of old line))
  pub counted : count ≡ length (events_of old line)
  pub few : count ≤ WORDS

-- how the turn of the line ended
abbrev pub Turned : State → ℕ → EventLine → List ℕ → LineTurn → State → List ℕ → Type 0
Turned old number line before (Done count) new text = IsLinePlayed old number line before count new text
Turned old number line before Illegal new text = (AllLegal old (events_of old line) → ⊥) × (text ≡ before ++ illegal_line number)
