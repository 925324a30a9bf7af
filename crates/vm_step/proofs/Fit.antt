-- A pass is fit to step again after a step: what the step brings says so.
use Rattle.vm_step.proofs.Prelude.{ap, arith, Bool, BringsWith, Did, Entry, false, if◌then◌else◌, IsFit, length, List}
use Rattle.vm_step.proofs.Prelude.{Option, Release, Stored, subst, sym, true, View, ℕ, ◌<◌, ◌∙◌, ◌≡◌}

module _ {X : Type 0} where
  pub fit : {did : Did} → {block : Option (ℕ × Stored)} → {own : List Release} → {entries : List (Entry X)}
      → {v inner w : View X} → BringsWith did block own entries v inner w → inner.live ≡ true → 0 < length inner.used
      → IsFit w
  fit b live number = record {
    live = ap (λ (y : View X). y.live) b.view ∙ live;
    learned = (ap (λ (y : View X). y.told_releases) b.view, ap (λ (y : View X). y.told) b.view);
    number = subst (λ (ns : List ℕ). 0 < length ns) (sym (ap (λ (y : View X). y.used) b.view)) number;
    sound = b.sound;
  }

  -- an exchange, taken or lost, leaves a view that lives
  pub either-lives : (b : Bool) (x y : View X) → x.live ≡ true → y.live ≡ true → (if b then x else y).live ≡ true
  either-lives b x y l m = grind arith

  -- and that has a part
  pub either-has : (b : Bool) (x y : View X) → 0 < length x.used → 0 < length y.used
      → 0 < length (if b then x else y).used
  either-has true x y l m = l
  either-has false x y l m = m
