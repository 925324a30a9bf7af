-- The lines of workers' answers to calls with byte keys.
use Rattle.std.specs.Prelude.{[], ◌++◌, ◌+◌, ◌∷◌, ◌≡◌, Err, length, List, Ok, Result, ℕ}
use Rattle.vm_bytes_laws.specs.declared.call.{KeyCall.KeyCall, KeyReply.KeyReply}
use Rattle.vm_bytes_serve.specs.from_vm_bytes_calls.{declared_answers_KeyReplies.KeyReplies, KeyAnswers.KeepsKeyAnswers}
use Rattle.vm_bytes_script.specs.KeyReplies.{key_reply_line}
use Rattle.vm_bytes_serve.specs.from_vm_tree_rule.declared_fault_TreeFault.{TreeFault}
use Rattle.vm_bytes_serve.specs.from_vm_tree_rule.declared_fault_TreeFault_TheVariants.{Damaged, Device, Full, Worn}
use Rattle.vm_bytes_serve.specs.from_vm_drive.Lists.{AreKept}
use Rattle.vm_script.specs.{declared.text.Line.Line, Texts.reply_line}
use Rattle.vm_script.specs.declared.text.Line.TheVariants as lines

abbrev pub fault_line : TreeFault → Line
fault_line (Device page count) = lines.Fault page
fault_line (Full pages) = lines.Full
fault_line (Worn page) = lines.Worn page
fault_line (Damaged page) = lines.Damaged page

-- the line of a call: its reply, or why it has none
abbrev pub key_line : ℕ → ℕ → KeyCall → Result KeyReply TreeFault → List ℕ
key_line worker number call (Ok reply) = key_reply_line worker number call reply
key_line worker number call (Err fault) = reply_line worker number (fault_line fault)

-- a worker's lines, one for each call with its answer, numbered on from `number`
abbrev pub key_lines : ℕ → ℕ → List KeyCall → List (Result KeyReply TreeFault) → List ℕ
key_lines worker number [] answers = []
key_lines worker number (call ∷ calls) [] = []
key_lines worker number (call ∷ calls) (answer ∷ answers) =
    key_line worker number call answer ++ key_lines worker (number + 1) calls answers

-- the lines of workers, worker after worker from `worker` on, each worker's numbered from 1
abbrev pub key_worker_lines : ℕ → List (List KeyCall) → List (List (Result KeyReply TreeFault)) → List ℕ
key_worker_lines worker [] replies = []
key_worker_lines worker (calls ∷ lists) [] = []
key_worker_lines worker (calls ∷ lists) (answers ∷ replies) =
    key_lines worker 1 calls answers ++ key_worker_lines (worker + 1) lists replies

-- each list has an answer for each of its calls
abbrev pub AreMatched : {X R : Type 0} → List (List X) → List (List (Result R TreeFault)) → Type 0
AreMatched [] [] = Unit {0}
AreMatched [] (answers ∷ replies) = ⊥
AreMatched (calls ∷ lists) [] = ⊥
AreMatched (calls ∷ lists) (answers ∷ replies) = (length answers ≡ length calls) × AreMatched lists replies

-- what was kept stands for answers to just these calls
pub record AreAnswered (lists : List (List KeyCall)) (kept : List KeyReplies) : Type 0 where
  pub told : List (List (Result KeyReply TreeFault))
  pub stand : AreKept KeepsKeyAnswers kept told
  pub matched : AreMatched lists told
