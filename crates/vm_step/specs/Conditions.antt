-- What a pass must know before a step of several kinds: conditions over its own view alone. Those of one kind stand
-- with the kind, in specs/steps.
use Rattle.std.specs.Prelude.{◌≡◌, ◌≢◌, Some, ℕ}
use Rattle.vm_rule.specs.{declared.view.Out.Out, declared.view.View.View, Prelude.no_held, Prelude.put_at}

module _ {X : Type 0} where
  -- the block of page p is not out with the pass
  abbrev pub IsNotOut : View X → ℕ → Type 0
  IsNotOut v p = (o : Out) → v.out ≡ Some o → o.page ≢ p

  -- the last share of a page under write-back is given up only once the fault word is the block's count
  abbrev pub IsToldOf : View X → ℕ → Type 0
  IsToldOf v p = (put_at no_held v.held p).fault ≡ (put_at no_held v.held p).block.count
