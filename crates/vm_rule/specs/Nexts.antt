-- What the steps on the next word tell: it is loaded, or the pages from it on are claimed for a group. A claim of
-- pages that begin with the next
-- word which the pass knows can't be lost.
use Rattle.std.specs.Prelude.{[], ◌++◌, ◌+◌, ◌<◌, ◌==◌, ◌≡◌, ◌≤◌, if◌then◌else◌, List, None, replicate, Some, true, ℕ}
use Rattle.vm_rule.specs.{Brought.Brings, declared.view.Did.Did, declared.view.View.View, Layout.at_next}
use Rattle.vm_rule.specs.{Log.did_exchange, Log.did_load, Reading.last_of, Rule.WasNext, Views.Each, Views.numbers}
use Rattle.vm_rule.specs.{Views.seat_of}
use Rattle.vm_rule.specs.declared.view.WordPlace.TheVariants as places

-- the next word found now is no lower than each that the steps of the log found and left
abbrev pub IsLatest : ℕ → List Did → Type 0
IsLatest found log = Each (λ d. at_next d.at (WasNext found d.found × WasNext found d.wrote)) log

module _ {X : Type 0} where
  -- A step on the next word, which found the word so. The word is within the table, no lower than at the start or
  -- than the pass's log has it, and
  -- pages from it on have zero words. A pass that knew the next word beforehand holds that page, and found that word.
  pub record NextStepTold (did : Did) (inner : View X) (found : ℕ) (v w : View X) : Type 0 where
    pub brings : Brings did [] [] v inner w
    pub known : (x : ℕ) → v.next ≡ Some x → found ≡ x
    pub holds : (x : ℕ) → v.next ≡ Some x → (seat_of v x).exclusive ≡ true
    pub risen : v.start.next ≤ found
    pub inside : found ≤ v.start.pages
    pub zero : v.start.tells ≡ true → (p : ℕ) → found ≤ p → p < v.start.pages
        → (last_of w p).words ≡ replicate w.start.size 0
    pub since : IsLatest found v.log

  -- a load: who holds the next page knows that it stays the next page
  abbrev pub next_view : ℕ → View X → View X
  next_view found v = record v { next = if (seat_of v found).exclusive then Some found else v.next }

  -- the next word was loaded; a pass that holds that page knows it from then on
  abbrev pub NextTold : ℕ → View X → View X → Type 0
  NextTold found v w = NextStepTold (did_load places.Next found) (next_view found v) found v w

  -- a claim: where the word was the one expected, the pages from x on, n of them, are owed to the pass
  abbrev pub claimed_view : ℕ → ℕ → View X → View X
  claimed_view x n v = record v { owed = numbers x n ++ v.owed; next = None }

  -- pages were claimed from the next one on, where the word is the one expected: they are owed to the pass
  abbrev pub ClaimTold : ℕ → ℕ → ℕ → View X → View X → Type 0
  ClaimTold x n found v w = NextStepTold (did_exchange places.Next x found (x + n)) (if found == x then claimed_view x n v else v) found v w
