-- A filter of the pages chosen in a walk: a bit for each page's number modulo 1,024. A page whose bit is not set was not chosen.
use Rattle.std.specs.Prelude.{◌%◌, ◌≡◌, Bool, List, true, ℕ}
use Rattle.vm_event.specs.Prelude.{at, has_free_bit}
use Rattle.vm_supply.specs.from_vm_rule.Prelude.{has}
use Rattle.vm_supply.specs.from_vm_step.Prelude.{candidate_pages}

-- the page's bit is set
abbrev pub may_hold : List ℕ → ℕ → Bool
may_hold masks p = has_free_bit (at 0 masks) (p % 1024)

-- each page chosen has its bit set
abbrev pub HoldsChosen : List ℕ → List (ℕ × ℕ) → Type 0
HoldsChosen masks list = (p : ℕ) → has p (candidate_pages list) ≡ true → may_hold masks p ≡ true
