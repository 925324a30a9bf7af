-- Frames that a pass holds.
use Rattle.std.specs.Prelude.{◌<◌, ◌≡◌, List, true, ℕ}
use Rattle.vm_rule.specs.{declared.view.View.View, Prelude.AreApart, Prelude.Each, Prelude.has}

module _ {X : Type 0} where
  -- these are frames of the table, each once, which the pass holds
  pub record AreHeld (frames : List ℕ) (v : View X) : Type 0 where
    pub apart : AreApart frames
    pub inside : Each (λ f. f < v.start.frames) frames
    pub held : Each (λ f. has f v.frames ≡ true) frames
