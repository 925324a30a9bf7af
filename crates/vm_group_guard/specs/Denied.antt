-- What a call on a group answers that gives no guard: the evidence of its steps, and that the pass holds what it held.
use Rattle.std.specs.Prelude.{◌≡◌, List, true, ℕ}
use Rattle.vm_step.specs.Prelude.{Did, View}
use Rattle.vm_guard.specs.{declared.deny.Deny.Deny, Denied.IsEvidence}
use Rattle.vm_group_guard.specs.{Reading.IsGroupQuiet, Steps.OnlyUnmarkAll}

module _ {X : Type 0} where
  -- the call on the group of page h was denied, with evidence of the group's word, by an answer of an allowed kind
  pub record IsGroupDenied (allowed : Deny → Type 0) (kept : ℕ → Type 0) (expects : ℕ → ℕ → Type 0) (h size : ℕ)
      (deny : Deny)
      (v w : View X) : Type 0 where
    pub done : List Did
    pub quiet : IsGroupQuiet h size done v w
    pub evidence : IsEvidence kept expects done h deny
    pub kind : allowed deny
    -- the call left no word but the group's, whose mark it may have taken away
    pub leaves : OnlyUnmarkAll done
    pub current : w.current ≡ true
