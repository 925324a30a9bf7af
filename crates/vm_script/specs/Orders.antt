-- Scripts of calls of any kind: lines `WORKER CALL`, each ended by a line feed, which the last may lack.
use Rattle.std.specs.Fmt.{decimal}
use Rattle.std.specs.List.{AllByRecursion, flat_map}
use Rattle.std.specs.Prelude.{[], ◌++◌, ◌+◌, ◌<◌, ◌==◌, ◌∷◌, ◌≡◌, ◌≤◌, ◌⊎◌, Bool, Err, filter, if◌then◌else◌, length, List}
use Rattle.std.specs.Prelude.{map, Ok, Result, suc, zero, ℕ}
use Rattle.vm_script.specs.{Cuts.Lacks, declared.script.Order.Order, declared.script.ScriptFault.ScriptFault}
use Rattle.vm_script.specs.declared.script.ScriptFault.TheVariants.{Line, Long, Memory}

-- the calls that a script may have, how each is written, and which of them are ranges
pub record Grammar (C : Type 0) : Type 1 where
  pub is_call : C → Type 0
  pub text : C → List ℕ
  pub is_range : C → Bool

-- a call is written on one line, and a text is that of one call
pub record TellsCalls {C : Type 0} (grammar : Grammar C) : Type 0 where
  pub one_line : (call : C) → grammar.is_call call → Lacks 10 (grammar.text call)
  pub one_call : (a b : C) → grammar.is_call a → grammar.is_call b → grammar.text a ≡ grammar.text b → a ≡ b

-- `WORKER CALL`
abbrev pub order_text : {C : Type 0} → Grammar C → Order C → List ℕ
order_text grammar order = decimal order.worker ++ 32 ∷ grammar.text order.call

-- an order that a script for so many workers may have
pub record IsOrder {C : Type 0} (grammar : Grammar C) (workers : ℕ) (order : Order C) : Type 0 where
  pub worker : order.worker < workers
  pub call : grammar.is_call order.call

-- the lines, each with its line feed
abbrev pub lines_text : {C : Type 0} → Grammar C → List (Order C) → List ℕ
lines_text grammar orders = flat_map (λ order. order_text grammar order ++ 10 ∷ []) orders

-- the last line feed may be missing
abbrev pub IsSpelling : List ℕ → List ℕ → Type 0
IsSpelling bytes lines = (bytes ≡ lines) ⊎ (bytes ++ 10 ∷ [] ≡ lines)

abbrev pub most_lines : ℕ
most_lines = 1000000

abbrev pub most_bytes : ℕ
most_bytes = 16777216

abbrev pub most_ranges : ℕ
most_ranges = 1000

-- one for a range, and nothing for another call
abbrev pub range_count : {C : Type 0} → Grammar C → C → ℕ
range_count grammar call = if grammar.is_range call then 1 else 0

-- how many of the orders are ranges
abbrev pub range_lines : {C : Type 0} → Grammar C → List (Order C) → ℕ
range_lines grammar [] = 0
range_lines grammar (order ∷ orders) = range_count grammar order.call + range_lines grammar orders

-- the bytes spell these orders
pub record Spells {C : Type 0} (grammar : Grammar C) (workers : ℕ) (bytes : List ℕ) (orders : List (Order C)) : Type 0 where
  pub each : AllByRecursion (IsOrder grammar workers) orders
  pub few : length orders ≤ most_lines
  pub ranges : range_lines grammar orders ≤ most_ranges
  pub spelling : IsSpelling bytes (lines_text grammar orders)

-- the bytes begin with this line: it is all of them, or a line feed ends it
abbrev pub BeginsWith : List ℕ → List ℕ → Type 0
BeginsWith bytes line = (bytes ≡ line) ⊎ ((rest : List ℕ) × (bytes ≡ line ++ 10 ∷ rest))

-- line number n is the first bad one: behind n - 1 good lines something stands that begins with no order or with one
-- range too many, or it is one line too many
pub record IsFirstBad {C : Type 0} (grammar : Grammar C) (workers : ℕ) (bytes : List ℕ) (n : ℕ) : Type 0 where
  pub good : List (Order C)
  pub rest : List ℕ
  pub each : AllByRecursion (IsOrder grammar workers) good
  pub few : length good ≤ most_lines
  pub ranges : range_lines grammar good ≤ most_ranges
  pub front : bytes ≡ lines_text grammar good ++ rest
  pub more : 0 < length rest
  pub count : length good + 1 ≡ n
  pub bad : (length good ≡ most_lines) ⊎ ((order : Order C) → IsOrder grammar workers order
      → BeginsWith rest (order_text grammar order) → most_ranges < range_lines grammar (good ++ order ∷ []))

-- the calls of one worker, in the script's order
abbrev pub calls_by : {C : Type 0} → ℕ → List (Order C) → List C
calls_by worker orders = map (λ order. order.call) (filter (λ order. order.worker == worker) orders)

-- the calls of each worker below a number
abbrev pub lists_of : {C : Type 0} → ℕ → List (Order C) → List (List C)
lists_of zero orders = []
lists_of (suc worker) orders = lists_of worker orders ++ calls_by worker orders ∷ []

-- a script gives each worker its calls, in order
pub record IsScript {C : Type 0} (grammar : Grammar C) (workers : ℕ) (bytes : List ℕ) (lists : List (List C)) : Type 0 where
  pub orders : List (Order C)
  pub spells : Spells grammar workers bytes orders
  pub each : lists ≡ lists_of workers orders

-- the right answer of a reader, its answer seen by `view`: its calls, too long, or the first bad line; want of memory is free
abbrev pub ReadsScript : {C V : Type 0} → Grammar C → (V → List (List C)) → ℕ → List ℕ → Result V ScriptFault → Type 0
ReadsScript grammar view workers bytes (Ok v) = (length bytes ≤ most_bytes) × IsScript grammar workers bytes (view v)
ReadsScript grammar view workers bytes (Err Long) = most_bytes < length bytes
ReadsScript grammar view workers bytes (Err (Line n)) = (length bytes ≤ most_bytes) × IsFirstBad grammar workers bytes n
ReadsScript grammar view workers bytes (Err Memory) = Unit {0}
