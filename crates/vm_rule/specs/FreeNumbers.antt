-- What the steps on a free-number word tell. Numbers that are taken come to the pass; those that are given leave it,
-- whether it held them or freed their pages.
use Rattle.std.specs.Prelude.{[], bit_and, bit_or, bit_xor, false, if◌then◌else◌, ℕ, ◌++◌, ◌<◌, ◌==◌, ◌≡◌, ◌⊎◌, true}
use Rattle.vm_event.specs.{Prelude.in_mask}
use Rattle.vm_numbers.specs.Hands.{all_zero}
use Rattle.vm_owner.specs.Numbers.{has}
use Rattle.vm_rule.specs.{Brought.Brings, Bundles.frames_in, declared.view.View.View, Releases.without_all}
use Rattle.vm_rule.specs.declared.view.WordPlace.TheVariants as places
use Rattle.vm_rule.specs.Log.{did_change, did_exchange, did_load}
use Rattle.vm_rule.specs.Reading.{last_of}
use Rattle.vm_rule.specs.Views.{draft_of, IsLocking, seat_of}

module _ {X : Type 0} where
  -- a load of a free-number word
  pub record SpareTold (g found : ℕ) (v w : View X) : Type 0 where
    pub brings : Brings (did_load (places.Spare g) found) [] [] v v w

  abbrev pub numbered_view : ℕ → ℕ → View X → View X
  numbered_view g mask v = record v { numbers = frames_in g mask ++ v.numbers }

  -- the numbers taken are of pages; where the blocks tell their words, they were not the pass's: it neither held them
  -- nor had freed their pages. A page of them that is a member of its own still to be released has a draft of zeros;
  -- one that it holds exclusively has zeros as its last version
  pub record TakeNumbersTold (g expects mask found : ℕ) (v w : View X) : Type 0 where
    pub brings : Brings (did_exchange (places.Spare g) expects found (bit_xor expects mask)) [] [] v
        (if found == expects then numbered_view g mask v else v) w
    pub inside : found ≡ expects → (p : ℕ) → in_mask g mask p ≡ true → p < v.start.pages
    pub new : v.start.tells ≡ true → found ≡ expects → (p : ℕ) → in_mask g mask p ≡ true → (has p v.numbers ≡ false)
        × (has p v.freed ≡ false)
    pub members : v.start.tells ≡ true → found ≡ expects → (p : ℕ) → in_mask g mask p ≡ true → has p v.pending ≡ true →
        ((seat_of v p).exclusive ≡ true) × (all_zero (draft_of v p) ≡ true)
    pub zero : v.start.tells ≡ true → found ≡ expects → (p : ℕ) → in_mask g mask p ≡ true → IsLocking (seat_of v p)
        → all_zero (last_of v p).words ≡ true

  abbrev pub unnumbered_view : ℕ → ℕ → View X → View X
  unnumbered_view g mask v = record v { numbers = without_all (frames_in g mask) v.numbers; freed = without_all (frames_in g mask) v.freed }

  -- what the pass has of a number that it may give: it holds it, or freed its page; and the page is no member still
  -- to be released, or it holds the number, and
  -- the page's draft is all 0
  abbrev pub IsGivenBy : View X → ℕ → Type 0
  IsGivenBy v p = ((has p v.numbers ≡ true) ⊎ (has p v.freed ≡ true))
      × ((has p v.pending ≡ false) ⊎ ((has p v.numbers ≡ true) × (all_zero (draft_of v p) ≡ true)))

  -- none of their bits was set
  pub record GiveNumbersTold (g mask found : ℕ) (v w : View X) : Type 0 where
    pub brings : Brings (did_change (places.Spare g) found (bit_or found mask)) [] [] v (unnumbered_view g mask v) w
    pub unset : v.start.tells ≡ true → bit_and found mask ≡ 0
