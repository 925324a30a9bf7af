-- The lines of workers' answers.
use Rattle.std.specs.Prelude.{[], ◌∷◌, Err, List, Ok, Result, ℕ}
use Rattle.vm_map.specs.{declared.call.Call.Call, declared.call.Reply.Reply}
use Rattle.vm_serve.specs.from_vm_tree_rule.declared_fault_TreeFault.{TreeFault}
use Rattle.vm_serve.specs.from_vm_pool.declared_ended_Ended.{Ended}
use Rattle.vm_script.specs.{declared.text.Line.Line, Texts.counters_line}
use Rattle.vm_script.specs.declared.text.Line.TheVariants as lines
pub use Rattle.vm_bytes_replies.specs.KeyLines.{AreMatched, fault_line}

-- the line of a call: its reply, or why it has none
abbrev pub line_in : Call → Result Reply TreeFault → Line
line_in call (Ok reply) = lines.Said (record { call = call; reply = reply })
line_in call (Err fault) = fault_line fault

-- a worker's lines, one for each call with its answer
abbrev pub lines_in : List Call → List (Result Reply TreeFault) → List Line
lines_in [] answers = []
lines_in (call ∷ calls) [] = []
lines_in (call ∷ calls) (answer ∷ answers) = line_in call answer ∷ lines_in calls answers

-- all workers' lines
abbrev pub all_lines : List (List Call) → List (List (Result Reply TreeFault)) → List (List Line)
all_lines [] replies = []
all_lines (calls ∷ lists) [] = []
all_lines (calls ∷ lists) (answers ∷ replies) = lines_in calls answers ∷ all_lines lists replies

-- the counters of the device, as the end of the pool keeps them, and how many pages were evicted
abbrev pub counters_of : {U S : Type 0} → Ended U S → ℕ → List ℕ
counters_of end evicted = counters_line end.reads end.writes end.faults evicted
