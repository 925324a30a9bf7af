-- The blocks that a table begins with have a page's words each.
use Rattle.std.proofs.Common.{[], arith, length, List, map, suc, zero, ℕ, ◌∷◌, ◌≡◌}
use Rattle.vm_block.specs.declared.stored.Stored.{Stored}
use Rattle.vm_event.specs.Prelude.{at}
use Rattle.vm_rule.specs.Prelude.{AreWhole}

pub whole-each : {B : Type 0} (stored : B → Stored) (size : ℕ) (items : List B)
    → ((b : B) → length (stored b).words ≡ size) → AreWhole size (map stored items)
unfolding at
whole-each stored size [] each p l = absurd (omega (arith, l))
whole-each stored size (x ∷ xs) each zero l = each x
whole-each stored size (x ∷ xs) each (suc p) l = whole-each stored size xs each p (omega (arith, l))
