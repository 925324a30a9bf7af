-- What a replay of a file tells.
use Rattle.std.specs.Prelude.{◌<◌, ◌≤◌, Bool, Err, length, List, Ok, Result, ℕ}
use Rattle.vm_rule.specs.Prelude.{CoreShape}
use Rattle.vm_script.specs.{declared.event_line.EventLine.EventLine, Events.IsFirstBadEvent, Events.SpellsEvents, Scripts.most_bytes}
use Rattle.vm_replay.specs.{declared.file.ReplayStop.ReplayStop, Played.PlayedFromStart}
use Rattle.vm_replay.specs.declared.file.ReplayStop.TheVariants.{Line, Long, Memory}

-- the bytes spell an event list, which was played from the start of its core
pub record PlayedFile (bytes : List ℕ) (text : List ℕ) (is_legal : Bool) : Type 0 where
  pub shape : CoreShape
  pub groups : List (ℕ × ℕ)
  pub lines : List EventLine
  pub short : length bytes ≤ most_bytes
  pub spells : SpellsEvents bytes shape groups lines
  pub played : PlayedFromStart shape groups lines text is_legal

-- what a replay of a file answers, its text and whether all lines were legal seen by `view`; want of memory is free
abbrev pub TellsReplay : {V : Type 0} → (V → List ℕ × Bool) → List ℕ → Result V ReplayStop → Type 0
TellsReplay view bytes (Ok v) = PlayedFile bytes (view v).0 (view v).1
TellsReplay view bytes (Err Long) = most_bytes < length bytes
TellsReplay view bytes (Err (Line n)) = (length bytes ≤ most_bytes) × IsFirstBadEvent bytes n
TellsReplay view bytes (Err Memory) = Unit {0}
