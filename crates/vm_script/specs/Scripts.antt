-- Scripts of calls with word keys.
use Rattle.std.specs.Fmt.{decimal}
use Rattle.std.specs.Prelude.{◌++◌, ◌<◌, ◌^◌, ◌∷◌, ◌≤◌, Bool, codes, false, List, Result, true, ℕ}
use Rattle.vm_map.specs.{declared.window.Bound.Bound, declared.window.Bound.TheVariants.End}
use Rattle.vm_map.specs.{declared.window.Bound.TheVariants.Key, History.bound_of, declared.call.Call.Call}
use Rattle.vm_map.specs.{declared.window.TheConstants.MOST_PAIRS}
use Rattle.vm_map.specs.declared.call.Call.TheVariants.{Del, Get, Put, Range, Swap, Window}
use Rattle.vm_script.specs.{declared.script.Order.Order, declared.script.ScriptFault.ScriptFault}
use Rattle.vm_script.specs.Texts.{bound_text}
use Rattle.vm_script.specs.Orders as orders
pub use Rattle.vm_script.specs.Orders.{BeginsWith, calls_by, Grammar, IsSpelling, lists_of, most_bytes, most_lines, most_ranges}

-- `get K`, `put K V`, `del K`, `scan K N`, `swap K OLD NEW` or `range A B`
abbrev pub call_text : Call → List ℕ
call_text (Get key) = codes "get" ++ 32 ∷ decimal key
call_text (Put key value) = codes "put" ++ 32 ∷ decimal key ++ 32 ∷ decimal value
call_text (Del key) = codes "del" ++ 32 ∷ decimal key
call_text (Window start most) = codes "scan" ++ 32 ∷ decimal start ++ 32 ∷ decimal most
call_text (Swap key want value) = codes "swap" ++ 32 ∷ (decimal key ++ 32 ∷ (decimal want ++ 32 ∷ decimal value))
call_text (Range low bound) = codes "range" ++ 32 ∷ (decimal low ++ 32 ∷ bound_text bound)

-- a bound that a script may have: a number, or `end`
abbrev pub IsScriptBound : Bound → Type 0
IsScriptBound (Key key) = key < 2 ^ 64
IsScriptBound End = Unit {0}

-- a call that a script may have: of a range, the bound lies above its key
abbrev pub IsScriptCall : Call → Type 0
IsScriptCall (Get key) = key < 2 ^ 64
IsScriptCall (Put key value) = (key < 2 ^ 64) × (value < 2 ^ 64)
IsScriptCall (Del key) = key < 2 ^ 64
IsScriptCall (Window start most) = (start < 2 ^ 64) × (1 ≤ most) × (most ≤ MOST_PAIRS)
IsScriptCall (Swap key want value) = (key < 2 ^ 64) × (want < 2 ^ 64) × (value < 2 ^ 64)
IsScriptCall (Range low bound) = (low < bound_of bound) × IsScriptBound bound

abbrev pub is_range : Call → Bool
is_range (Get key) = false
is_range (Put key value) = false
is_range (Del key) = false
is_range (Window start most) = false
is_range (Swap key want value) = false
is_range (Range low bound) = true

abbrev pub word_grammar : Grammar Call
word_grammar = record { is_call = IsScriptCall; text = call_text; is_range = is_range }

-- an order that a script for so many workers may have
abbrev pub IsOrder : ℕ → Order Call → Type 0
IsOrder = orders.IsOrder word_grammar

-- the bytes spell these orders
abbrev pub Spells : ℕ → List ℕ → List (Order Call) → Type 0
Spells = orders.Spells word_grammar

-- line number n is the first bad one
abbrev pub IsFirstBad : ℕ → List ℕ → ℕ → Type 0
IsFirstBad = orders.IsFirstBad word_grammar

-- a script gives each worker its calls, in order
abbrev pub IsScript : ℕ → List ℕ → List (List Call) → Type 0
IsScript = orders.IsScript word_grammar

-- the right answer of a reader
abbrev pub ReadsScript : {V : Type 0} → (V → List (List Call)) → ℕ → List ℕ → Result V ScriptFault → Type 0
ReadsScript view workers bytes result = orders.ReadsScript word_grammar view workers bytes result
