-- What a call that waits leaves of a worker's pass.
use Rattle.std.specs.Prelude.{◌≡◌, ℕ}
use Rattle.vm_rule.specs.Prelude.{StartsWith}
use Rattle.vm_step.specs.Prelude.{HoldsPage, View}

module _ {X : Type 0} where
  -- the pass holds just the pages, shares and blocks that it held, has the parts that it had, and knows what it knew
  -- of the history, the releases,
  -- its notes and its steps
  pub record KeepsPass (v w : View X) : Type 0 where
    pub holds : (q : ℕ) → HoldsPage v w q
    pub out : w.out ≡ v.out
    pub start : w.start ≡ v.start
    pub parts : (w.used ≡ v.used) × (w.fresh ≡ v.fresh)
    pub seen : StartsWith w.seen v.seen
    pub releases : StartsWith w.releases v.releases
    pub notes : StartsWith w.notes v.notes
    pub log : StartsWith w.log v.log
