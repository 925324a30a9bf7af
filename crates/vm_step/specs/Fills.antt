-- Words that are stored into a frame of the pass, one after the other.
use Rattle.std.specs.Prelude.{[], ◌+◌, ◌∷◌, ◌≡◌, List, ℕ}
use Rattle.vm_rule.specs.{declared.view.View.View, Prelude.FillTold}

module _ {X : Type 0} where
  -- stores of these words into frame f, from word i on, led from v to w
  abbrev pub Stores : ℕ → ℕ → List ℕ → View X → View X → Type 0
  Stores f i [] v w = w ≡ v
  Stores f i (x ∷ xs) v w = (between : View X) × FillTold f i x v between × Stores f (i + 1) xs between w
