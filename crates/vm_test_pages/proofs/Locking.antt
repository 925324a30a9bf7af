-- A page that was locked, and then only read, may be released as it was.
use Rattle.std.proofs.Common.{◌∙◌, ◌≡◌, ap, Bool, inl, List, subst, sym, ℕ}
use Rattle.vm_event.specs.Prelude.{Version}
use Rattle.vm_rule.specs.Prelude.{Start}
use Rattle.vm_step.specs.Prelude.{Did, IsClaimed, View}
use Rattle.vm_guard.specs.{Guards.IsLocked, Quiet.IsQuiet}

module _ {X : Type 0} {tied : Start → ℕ → List ℕ → ℕ → List ℕ → Type 0} {p q frame version : ℕ} {dirty : Bool}
    {done : List Did} {u v w : View X} where
  pub read-claims : q ≡ p → IsLocked tied p frame version dirty u v → IsQuiet q done v w → IsClaimed w q
  read-claims same taken reads =
      let l = subst (λ (n : ℕ). IsLocked tied n frame version dirty u v) (sym same) taken in
      let k = reads.knows q (inl l.holding.owns) in
      inl (k.draft ∙ l.draft ∙ sym (ap (λ (y : Version). y.words) k.last))
