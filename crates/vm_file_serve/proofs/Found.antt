-- What was found in the pages that blocks hold.
use Rattle.std.proofs.Common.{◌≡◌, ◌≤◌, Bool, length, List, subst, true, ℕ}
use Rattle.vm_block.specs.declared.stored.Stored.{Stored}
use Rattle.vm_tree_model.specs.Fixed.{fixed}
use Rattle.vm_image.specs.Reading.{held_words}
use Rattle.vm_check.specs.Rows.{AreRows}
use Rattle.vm_check.specs.declared.rows.Rows.{Rows}
use Rattle.vm_reading.specs.from_vm_endings.{Images.root_level, Limits.holds_call}
use Rattle.vm_file_serve.specs.Serving.{ArePagesOf, AreServable}

module _ (tells : Bool) (pages : List (List ℕ)) (old : List Stored) (count : length pages ≡ length old)
    (held : tells ≡ true → pages ≡ held_words old) where
  pub pages_of : ArePagesOf tells pages old
  pages_of = record { count = count; held = held }

  pub servable : (rows : Rows) → 2 ≤ length old → length old ≤ 256 → AreRows (fixed 64) pages rows → AreServable tells pages old
  servable rows some most are = record { pages_of = pages_of; some = some; most = most; tree = are.tree }

-- the level that was told is the root's
pub level_holds : (pages : List (List ℕ)) (rows : Rows) (frames : ℕ) (holds : Bool) → AreRows (fixed 64) pages rows
    → holds_call rows.height frames ≡ holds → holds_call (root_level pages) frames ≡ holds
level_holds pages rows frames holds are e = subst (λ (n : ℕ). holds_call n frames ≡ holds) are.height e
