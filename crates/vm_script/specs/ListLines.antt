-- The lines of an event list behind the shape's.
use Rattle.std.specs.Prelude.{[], ◌++◌, ◌∷◌, ◌≡◌, List, ℕ}
use Rattle.vm_event.specs.{declared.event.CoreShape.CoreShape, Groups.GroupsFit}
use Rattle.vm_script.specs.{declared.event_line.EventLine.EventLine, declared.list_line.ListLine.ListLine}
use Rattle.vm_script.specs.declared.list_line.ListLine.TheVariants.{Event, Group}
use Rattle.vm_script.specs.EventLines.{event_line_text, group_text, IsEventLine}

abbrev pub list_line_text : ListLine → List ℕ
list_line_text (Group group) = group_text group
list_line_text (Event line) = event_line_text line

-- a line that may stand behind these groups and event lines: an event line of the shape, or, where no event line stands
-- there, a group that fits beside the others
abbrev pub IsNextLine : CoreShape → List (ℕ × ℕ) → List EventLine → ListLine → Type 0
IsNextLine shape groups lines (Group group) = (lines ≡ []) × GroupsFit shape.pages (groups ++ group ∷ [])
IsNextLine shape groups lines (Event line) = IsEventLine shape line
