-- A call behind another leaves its pass as one call does.
use Rattle.vm_step.specs.Prelude.{GoesOn}
use Rattle.vm_step.proofs.Prelude.{Bool, Pass, ◌∙◌}
use Rattle.vm_rule.specs.declared.words.Words.{Words}

module _ {U B X : Type 0} {o : _} {w : Words U B X o} {tells : Bool} {p q r : Pass U X o} where
  -- the second call goes on from what the first left
  pub goes-then : GoesOn w tells p q → GoesOn w tells q r → GoesOn w tells p r
  goes-then f g = record { same = (g.same.0 ∙ f.same.0, g.same.1 ∙ f.same.1); ready = g.ready }
