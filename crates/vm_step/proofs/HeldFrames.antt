-- Frames are held while the pass takes and gives none.
use Rattle.vm_step.proofs.Prelude.{AreHeld, Each, has, List, subst, sym, true, View, ℕ, ◌<◌, ◌≡◌}

module _ {X : Type 0} where
  pub held-on : (frames : List ℕ) (v w : View X) → AreHeld frames v → w.start ≡ v.start → w.frames ≡ v.frames
      → AreHeld frames w
  held-on frames v w h start same = record {
    apart = h.apart;
    inside = subst (λ origin. Each (λ f. f < origin.frames) frames) (sym start) h.inside;
    held = subst (λ (l : List ℕ). Each (λ f. has f l ≡ true) frames) (sym same) h.held;
  }
