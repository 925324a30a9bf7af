-- The counts of entries: one entry more.
use Rattle.std.proofs.Common.{◌≡◌, ℕ, ◌+◌, ◌==◌, if◌then◌else◌, List, [], ◌∷◌, ◌++◌, ◌∙◌, arith}
use Rattle.vm_owner.specs.declared.Entry.{Entry}
use Rattle.vm_owner.specs.Kept.{entries_under, AreCounted}

module _ {S : Type 0} where
  -- one entry more, with its number's next count
  pub counted-more : (before : ℕ → ℕ) (h : List (Entry S)) (x : Entry S) → AreCounted before h
      → x.count ≡ (entries_under x.number h + before x.number) + 1 → AreCounted before (h ++ x ∷ [])
  counted-more before [] x a e = (omega arith, tt)
  counted-more before (y ∷ ys) x a e = (a.0, counted-more (λ n. (if y.number == n then 1 else 0) + before n) ys x a.1 (e ∙ omega arith))
