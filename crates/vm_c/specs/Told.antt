-- What an export that makes a call leaves of its hand, and tells.
use Rattle.std.specs.Prelude.{◌≡◌, IfSome, Option, Result, Some, ℕ}
use Rattle.std.specs.Arc.{arc_value}
use Rattle.vm_map.specs.declared.call.{Call.Call, Reply.Reply}
use Rattle.vm_step.specs.Prelude.{view}
use Rattle.vm_face.specs.from_vm_calls.Keeps.{KeepsPass}
use Rattle.vm_face.specs.from_vm_tree_rule.declared_fault_TreeFault.{TreeFault}
use Rattle.vm_face.specs.Calls.{IsHandCall}
use Rattle.vm_c.specs.{Answers.answer_for, declared.answers.CallTold.CallTold, declared.opened.OpenHand.OpenHand}

-- The hand made this call, and the number and what is told are those of its answer: a reply that is an entry of the
-- history, a fault with its cause, or that the rounds were used up
pub record HasAnswered (call : Call) (before after : OpenHand) (number : ℕ) (told : CallTold) : Type 0 where
  pub answer : Result (Option Reply) TreeFault
  pub is : (number, told) ≡ answer_for answer
  pub made : IsHandCall 64 call answer (view before.hand.pass) (view after.hand.pass)
  pub keeps : KeepsPass (view before.hand.pass) (view after.hand.pass)
  pub pool : arc_value after.hand.pool ≡ arc_value before.hand.pool

-- so it did, where the handle had a hand; it has it afterwards
abbrev pub AnswersCall : Call → Option OpenHand → Option OpenHand → ℕ → CallTold → Type 0
AnswersCall call old new number told = (before : OpenHand) → old ≡ Some before → IfSome new (λ after. HasAnswered call before after number told)
