-- What a call on a group leaves of the pages that are none of the group's.
use Rattle.vm_guard.proofs.QuietSteps.{steady-of}
use Rattle.vm_guard.specs.Groups.{IsBeside}
use Rattle.vm_step.specs.Prelude.{Release}
use Rattle.vm_group_guard.proofs.Prelude.{ap, Did, false, false≢true, has, holds-still, IsUnder, LeavesOthers, List}
use Rattle.vm_group_guard.proofs.Prelude.{numbers, numbers-has, Seat, sym, View, ℕ, ◌∙◌, ◌≡◌}

not-under : (h size q : ℕ) → has q (numbers h size) ≡ false → IsUnder h size q → ⊥
not-under h size q none is = false≢true (sym none ∙ numbers-has size h q is.0 is.1)

module _ {X : Type 0} where
  pub beside-of : (h size : ℕ) (done : List Did) (own : List Release) (v w : View X)
      → LeavesOthers (IsUnder h size) done own v w → IsBeside (numbers h size) done own v w
  beside-of h size done own v w f = record {
    steady = steady-of f;
    holds = λ q none. holds-still q (f.seats q (not-under h size q none));
    knows = λ q none l. record {
      held = f.held q (not-under h size q none);
      draft = f.drafts q (not-under h size q none);
      last = f.last q (not-under h size q none) l;
    };
    others = λ q none. record {
      reading = ap (λ (s : Seat). s.reading) (f.seats q (not-under h size q none));
      loads = f.loads q (not-under h size q none);
    };
  }
