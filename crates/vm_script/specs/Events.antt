-- Event lists: a shape line, then lines of groups of pages, then event lines, each ended by a line feed, which the last
-- may lack.
use Rattle.std.specs.List.{AllByRecursion, flat_map}
use Rattle.std.specs.Prelude.{[], ◌++◌, ◌+◌, ◌<◌, ◌∷◌, ◌≡◌, ◌≤◌, ◌⊎◌, Err, length, List, Ok, Result, ℕ}
use Rattle.vm_event.specs.Groups.{GroupsFit}
use Rattle.vm_event.specs.declared.event.CoreShape.{CoreShape}
use Rattle.vm_script.specs.{declared.event_line.EventLine.EventLine, declared.events.EventsFault.EventsFault}
use Rattle.vm_script.specs.{declared.list_line.ListLine.ListLine, ListLines.IsNextLine, ListLines.list_line_text}
use Rattle.vm_script.specs.declared.events.EventsFault.TheVariants.{Line, Long, Memory}
use Rattle.vm_script.specs.EventLines.{event_line_text, group_text, IsEventLine, IsShape, shape_text}
use Rattle.vm_script.specs.Scripts.{BeginsWith, IsSpelling, most_bytes}

-- the group lines and the event lines, each with its line feed
abbrev pub lines_text : List (ℕ × ℕ) → List EventLine → List ℕ
lines_text groups lines =
    flat_map (λ group. group_text group ++ 10 ∷ []) groups ++ flat_map (λ line. event_line_text line ++ 10 ∷ []) lines

-- with the shape line in front
abbrev pub events_text : CoreShape → List (ℕ × ℕ) → List EventLine → List ℕ
events_text shape groups lines = shape_text shape ++ 10 ∷ lines_text groups lines

-- the shape line and the group lines are counted too
abbrev pub most_event_lines : ℕ
most_event_lines = 100000

-- the bytes spell this shape, these groups and these event lines
pub record SpellsEvents (bytes : List ℕ) (shape : CoreShape) (groups : List (ℕ × ℕ)) (lines : List EventLine)
    : Type 0 where
  pub limits : IsShape shape
  pub fit : GroupsFit shape.pages groups
  pub each : AllByRecursion (IsEventLine shape) lines
  pub few : length groups + length lines + 1 ≤ most_event_lines
  pub spelling : IsSpelling bytes (events_text shape groups lines)

-- no shape line stands at the front
abbrev pub LacksShape : List ℕ → Type 0
LacksShape bytes = (shape : CoreShape) → IsShape shape → BeginsWith bytes (shape_text shape) → ⊥

-- line number n is the first bad one: behind the shape line and n - 2 good lines something stands that begins with no
-- line that may stand there, or it is one line too many
pub record IsFirstBadLine (bytes : List ℕ) (n : ℕ) : Type 0 where
  pub shape : CoreShape
  pub groups : List (ℕ × ℕ)
  pub good : List EventLine
  pub rest : List ℕ
  pub limits : IsShape shape
  pub fit : GroupsFit shape.pages groups
  pub each : AllByRecursion (IsEventLine shape) good
  pub front : bytes ≡ events_text shape groups good ++ rest
  pub more : 0 < length rest
  pub count : length groups + length good + 2 ≡ n
  pub few : length groups + length good + 1 ≤ most_event_lines
  pub bad : (length groups + length good + 1 ≡ most_event_lines)
      ⊎ ((line : ListLine) → IsNextLine shape groups good line → BeginsWith rest (list_line_text line) → ⊥)

-- line number n is the first bad one of the list
abbrev pub IsFirstBadEvent : List ℕ → ℕ → Type 0
IsFirstBadEvent bytes n = ((n ≡ 1) × LacksShape bytes) ⊎ IsFirstBadLine bytes n

-- what a reader of event lists answers, its answer seen by `view`; want of memory is free
abbrev pub ReadsEvents : {V : Type 0} → (V → CoreShape × List (ℕ × ℕ) × List EventLine) → List ℕ
    → Result V EventsFault → Type 0
ReadsEvents view bytes (Ok v) = (length bytes ≤ most_bytes) × SpellsEvents bytes (view v).0 (view v).1 (view v).2
ReadsEvents view bytes (Err Long) = most_bytes < length bytes
ReadsEvents view bytes (Err (Line n)) = (length bytes ≤ most_bytes) × IsFirstBadEvent bytes n
ReadsEvents view bytes (Err Memory) = Unit {0}
