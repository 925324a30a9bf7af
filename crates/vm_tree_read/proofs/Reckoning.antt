-- How many words of pages a read loads: those of its descent, and those of its leaf.
use Rattle.std.proofs.Common.{[], ◌*◌, ◌+◌, ◌≤◌, arith, List, refl, sym, ℕ}
use Rattle.vm_pool.proofs.from_vm_rule.Entries.{append-none}
use Rattle.vm_tree_rule.specs.from_vm_step.Prelude.{View}
use Rattle.vm_pool.specs.from_vm_guard.PageWords.{LoadsWords}
use Rattle.vm_tree_rule.specs.Few.{LoadsAtMost, LoadsHeight, LoadsWithin, ReadsInPlace}
use Rattle.vm_tree_rule.proofs.Counting.{height-more, height-same, height-within, place-within}

pub place-few : {X : Type 0} (p word frame n : ℕ) (C : List (ℕ × ℕ) → Type 0) (v w : View X)
    → ReadsInPlace p word frame n v w C → LoadsAtMost n v w
place-few p word frame n C v w r = place-within p word frame n C v w w r (record { done = []; log = sym (append-none w.log); words = refl })

-- the descent and the leaf's tag and fences, more words of the leaf, and the validation
module _ {X : Type 0} (child leaf : ℕ) where
  pub leaf-height : (most n h : ℕ) (u v w z : View X) → LoadsHeight (2 + child * h + leaf) h u v → LoadsAtMost n v w
      → LoadsWords [] w z → 2 + child * h + leaf + n ≤ most → LoadsHeight most h u z
  leaf-height most n h u v w z k more none le = height-same most h u w z (height-more (2 + child * h + leaf) n most h u v w k more le) none

  pub leaf-few : (most : ℕ → ℕ) (n h : ℕ) (u v w z : View X) → LoadsHeight (2 + child * h + leaf) h u v
      → LoadsAtMost n v w → LoadsWords [] w z → 2 + child * h + leaf + n ≤ most h → LoadsWithin most u z
  leaf-few most n h u v w z k more none le =
      height-within most (most h) h u z (leaf-height (most h) n h u v w z k more none le) (omega arith)
