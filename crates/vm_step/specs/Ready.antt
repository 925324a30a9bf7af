-- A pass that may step on over a table whose shape it knows: what every call above the steps asks for, and leaves.
use Rattle.std.specs.Prelude.{Bool}
use Rattle.vm_rule.specs.{declared.view.TableShape.TableShape, declared.words.Pass.Pass}
use Rattle.vm_rule.specs.{declared.words.Words.Words, Prelude.TableId}
use Rattle.vm_step.specs.{Operations.IsOf, Passes.IsSamePass, Passes.MayStep, Passes.view}

module _ {U X : Type 0} {o : _} where
  pub record IsReady (shape : TableShape) (tells : Bool) (t : TableId) (p : Pass U X o) : Type 0 where
    pub may : MayStep t p
    pub table : IsOf shape tells (view p)

module _ {U B X : Type 0} {o : _} where
  -- the pass is ready to step on these words, whose blocks tell their words or do not
  abbrev pub IsReadyOn : Words U B X o → Bool → Pass U X o → Type 0
  IsReadyOn w tells p = IsReady w.table.shared.key tells w.table.shared.table_id p

  -- what each call leaves of its pass, q: it is the pass p that came in, and it is ready to step on these words again
  pub record GoesOn (w : Words U B X o) (tells : Bool) (p q : Pass U X o) : Type 0 where
    pub same : IsSamePass p q
    pub ready : IsReadyOn w tells q
