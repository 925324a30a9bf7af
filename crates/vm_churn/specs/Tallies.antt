-- What the calls of a churn came to: how many gets found a value, how many puts no pair of their key, and how many
-- dels one; in a history, and
-- among the answers.
use Rattle.std.specs.List.{count_by, sum_by}
use Rattle.std.specs.Prelude.{[], ◌+◌, ◌∷◌, ◌≡◌, ◌≤◌, Bool, false, if◌then◌else◌, length, List, None, Ok, Result, Some, true, ℕ}
use Rattle.vm_map.specs.{declared.call.Call.Call, declared.call.Call.TheVariants.Get, declared.call.Reply.Reply}
use Rattle.vm_map.specs.{declared.call.Said.Said, Map.Pairs}
use Rattle.vm_map.specs.declared.call.Reply.TheVariants.{Gone, Got, Was}
use Rattle.vm_rule.specs.Prelude.{Entry}
use Rattle.vm_tree_laws.specs.History.{gones, news}
use Rattle.vm_drive.specs.from_vm_tree_rule.declared_fault_TreeFault.{TreeFault}
use Rattle.vm_drive.specs.Prelude.{Room}
use Rattle.vm_churn.specs.declared.tally.Tally.{Tally}

-- 1 for a get that found a value
abbrev pub is_found : Call → Reply → ℕ
is_found (Get key) (Got (Some value)) = 1
is_found _ _ = 0

-- how many gets of a history found a value
abbrev pub founds : List (Entry Said) → ℕ
founds [] = 0
founds (e ∷ h) = is_found e.said.call e.said.reply + founds h

-- the tally of a history
abbrev pub tally_of : List (Entry Said) → Tally
tally_of h = record { some = founds h; new = news h; gone = gones h }

-- whether an answer says that a get found a value
abbrev pub tells_found : Result Reply TreeFault → Bool
tells_found (Ok (Got (Some value))) = true
tells_found _ = false

-- whether an answer says that a put found no pair of its key
abbrev pub tells_new : Result Reply TreeFault → Bool
tells_new (Ok (Was None)) = true
tells_new _ = false

-- whether an answer says that a del found a pair of its key
abbrev pub tells_gone : Result Reply TreeFault → Bool
tells_gone (Ok (Gone (Some value))) = true
tells_gone _ = false

-- the tally of one worker's answers
abbrev pub told_by : List (Result Reply TreeFault) → Tally
told_by answers = record { some = count_by tells_found answers; new = count_by tells_new answers; gone = count_by tells_gone answers }

-- the tally with an answer more
abbrev pub told_after : Tally → Result Reply TreeFault → Tally
told_after tally answer = record {
  some = tally.some + (if tells_found answer then 1 else 0);
  new = tally.new + (if tells_new answer then 1 else 0);
  gone = tally.gone + (if tells_gone answer then 1 else 0);
}

-- no count of the tally is more than a list's most answers
pub record IsSmall (tally : Tally) : Type 0 where
  pub some : tally.some ≤ 1000000
  pub new : tally.new ≤ 1000000
  pub gone : tally.gone ≤ 1000000

-- the tally is that of these answers, where they are no more than a list may have calls
abbrev pub StandsFor : Tally → List (Result Reply TreeFault) → Type 0
StandsFor tally told = length told ≤ 1000000 → tally ≡ told_by told

-- a tally takes as many answers as a list may have calls, and any of them may be a window or have the pairs of a range
abbrev pub tally_room : Tally → Room
tally_room tally = record { answers = 1000000; windows = 1000000; spans = 1000000 }

-- the tallies put together
abbrev pub total_of : List Tally → Tally
total_of tallies = record { some = sum_by (λ t. t.some) tallies; new = sum_by (λ t. t.new) tallies; gone = sum_by (λ t. t.gone) tallies }

-- how many answers of all lists are such
abbrev pub count_in : (Result Reply TreeFault → Bool) → List (List (Result Reply TreeFault)) → ℕ
count_in tells replies = sum_by (count_by tells) replies

-- the tally of all workers' answers
abbrev pub told_tally : List (List (Result Reply TreeFault)) → Tally
told_tally replies = record { some = count_in tells_found replies; new = count_in tells_new replies; gone = count_in tells_gone replies }

-- the sum of a map's values
abbrev pub sum_values : Pairs → ℕ
sum_values m = sum_by (λ e. e.1) m
