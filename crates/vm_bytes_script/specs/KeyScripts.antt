-- Scripts of calls with byte keys.
use Rattle.std.specs.Fmt.{decimal}
use Rattle.std.specs.Prelude.{[], ◌++◌, ◌<◌, ◌^◌, ◌∷◌, ◌≤◌, codes, false, List, Result, ℕ}
use Rattle.vm_map.specs.declared.window.TheConstants.{MOST_PAIRS}
use Rattle.vm_bytes_form.specs.Strings.{IsString}
use Rattle.vm_bytes_laws.specs.declared.call.KeyCall.{KeyCall}
use Rattle.vm_bytes_laws.specs.declared.call.KeyCall.TheVariants.{Del, Get, Put, Swap, Window}
use Rattle.vm_bytes_text.specs.KeyTexts.{key_text}
use Rattle.vm_script.specs.{declared.script.Order.Order, declared.script.ScriptFault.ScriptFault}
use Rattle.vm_script.specs.Orders.{Grammar, IsFirstBad, IsScript, ReadsScript, Spells}

-- `get K`, `put K V`, `del K` or `scan K N`; a swap is not written
abbrev pub key_call_text : KeyCall → List ℕ
key_call_text (Get key) = codes "get" ++ 32 ∷ key_text key
key_call_text (Put key value) = codes "put" ++ 32 ∷ (key_text key ++ 32 ∷ decimal value)
key_call_text (Del key) = codes "del" ++ 32 ∷ key_text key
key_call_text (Window start most) = codes "scan" ++ 32 ∷ (key_text start ++ 32 ∷ decimal most)
key_call_text (Swap key want value) = []

-- a call that a script may have, whose key has at most 64 bytes
abbrev pub IsKeyScriptCall : KeyCall → Type 0
IsKeyScriptCall (Get key) = IsString 64 key
IsKeyScriptCall (Put key value) = IsString 64 key × (value < 2 ^ 64)
IsKeyScriptCall (Del key) = IsString 64 key
IsKeyScriptCall (Window start most) = IsString 64 start × (1 ≤ most) × (most ≤ MOST_PAIRS)
IsKeyScriptCall (Swap key want value) = ⊥

abbrev pub key_grammar : Grammar KeyCall
key_grammar = record { is_call = IsKeyScriptCall; text = key_call_text; is_range = λ call. false }

-- the bytes spell these orders
abbrev pub SpellsKeys : ℕ → List ℕ → List (Order KeyCall) → Type 0
SpellsKeys = Spells key_grammar

-- line number n is the first bad one
abbrev pub IsFirstBadKeys : ℕ → List ℕ → ℕ → Type 0
IsFirstBadKeys = IsFirstBad key_grammar

-- a script gives each worker its calls, in order
abbrev pub IsKeyScript : ℕ → List ℕ → List (List KeyCall) → Type 0
IsKeyScript = IsScript key_grammar

-- the right answer of a reader: its calls, too long, or the first bad line; want of memory is free
abbrev pub ReadsKeyScript : {V : Type 0} → (V → List (List KeyCall)) → ℕ → List ℕ → Result V ScriptFault → Type 0
ReadsKeyScript view workers bytes result = ReadsScript key_grammar view workers bytes result
