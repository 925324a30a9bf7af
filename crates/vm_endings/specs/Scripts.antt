-- Scripts and event lists: which bytes are one, and why others are refused.
use Rattle.std.specs.Prelude.{◌<◌, ◌≤◌, length, List, ℕ}
use Rattle.vm_map.specs.declared.call.Call.{Call}
use Rattle.vm_event.specs.declared.event.CoreShape.{CoreShape}
use Rattle.vm_bytes_laws.specs.declared.call.KeyCall.{KeyCall}
use Rattle.vm_bytes_script.specs.KeyScripts.{key_grammar}
use Rattle.vm_script.specs.{declared.event_line.EventLine.EventLine, Events.IsFirstBadEvent, Events.SpellsEvents}
use Rattle.vm_script.specs.Orders.{Grammar, IsFirstBad, IsScript, most_bytes}
use Rattle.vm_script.specs.Scripts.{word_grammar}

-- there are more bytes than a script or an event list may have
abbrev pub IsLong : List ℕ → Type 0
IsLong bytes = most_bytes < length bytes

-- the bytes are a script of so many workers with these calls, as this grammar writes them
pub record IsScriptIn {C : Type 0} (grammar : Grammar C) (workers : ℕ) (lists : List (List C))
    (bytes : List ℕ) : Type 0 where
  pub short : length bytes ≤ most_bytes
  pub reads : IsScript grammar workers bytes lists

-- the bytes are a script of so many workers
abbrev pub IsGoodScriptIn : {C : Type 0} → Grammar C → ℕ → List ℕ → Type 0
IsGoodScriptIn {C = C} grammar workers bytes = (lists : List (List C)) × IsScriptIn grammar workers lists bytes

-- so many bytes are a script's most, and line n is the first refused, or one too many
pub record IsBadScriptIn {C : Type 0} (grammar : Grammar C) (workers n : ℕ) (bytes : List ℕ) : Type 0 where
  pub short : length bytes ≤ most_bytes
  pub first : IsFirstBad grammar workers bytes n

-- the same of calls with words as keys
abbrev pub IsScriptOf : ℕ → List (List Call) → List ℕ → Type 0
IsScriptOf = IsScriptIn word_grammar

abbrev pub IsGoodScript : ℕ → List ℕ → Type 0
IsGoodScript = IsGoodScriptIn word_grammar

abbrev pub IsBadScript : (workers n : ℕ) → List ℕ → Type 0
IsBadScript = IsBadScriptIn word_grammar

-- and of calls with byte keys
abbrev pub IsKeyScriptOf : ℕ → List (List KeyCall) → List ℕ → Type 0
IsKeyScriptOf = IsScriptIn key_grammar

abbrev pub IsGoodKeyScript : ℕ → List ℕ → Type 0
IsGoodKeyScript = IsGoodScriptIn key_grammar

abbrev pub IsBadKeyScript : (workers n : ℕ) → List ℕ → Type 0
IsBadKeyScript = IsBadScriptIn key_grammar

-- the bytes are an event list of this shape with these groups and lines
pub record AreEventsOf (shape : CoreShape) (groups : List (ℕ × ℕ)) (lines : List EventLine) (bytes : List ℕ) : Type 0 where
  pub short : length bytes ≤ most_bytes
  pub spells : SpellsEvents bytes shape groups lines

-- the bytes are an event list
abbrev pub AreGoodEvents : List ℕ → Type 0
AreGoodEvents bytes =
    (shape : CoreShape) × (groups : List (ℕ × ℕ)) × (lines : List EventLine) × AreEventsOf shape groups lines bytes

-- so many bytes are an event list's most, and line n is the first refused, or one too many
pub record AreBadEvents (n : ℕ) (bytes : List ℕ) : Type 0 where
  pub short : length bytes ≤ most_bytes
  pub first : IsFirstBadEvent bytes n
