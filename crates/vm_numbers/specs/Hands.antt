-- Free page numbers: where the number of each page stands, and what that says of the page's words. A number stands in
-- one place at most: its bit is set, or a
-- pass holds it, or a pass freed the page and has still to give it, or the page is owed to a pass.
use Rattle.std.specs.Prelude.{[], ◌++◌, ◌+◌, ◌<◌, ◌∷◌, ◌≡◌, ◌≤◌, ◌⊎◌, Bool, false, if◌then◌else◌, List, true, ℕ}
use lib.ListN.{get_elem?}
use mathlib.Core.Option.{some}
use Rattle.vm_owner.specs.Numbers.{has, without}
pub use Rattle.vm_page.specs.Pages.{all_zero}

-- What a pass has of page numbers: those that it holds; those of pages that the first release of a group of it freed,
-- and that it has still to give; the pages
-- that it claimed for a group still to be released; and the members still to be released of a group that is released in part
pub record Hands : Type 0 where
  pub numbers : List ℕ
  pub freed : List ℕ
  pub owed : List ℕ
  pub pending : List ℕ

abbrev pub unit_if : Bool → ℕ
unit_if b = if b then 1 else 0

-- how often the pass has the number of page p
abbrev pub in_hand : ℕ → Hands → ℕ
in_hand p h = unit_if (has p h.numbers) + unit_if (has p h.freed) + unit_if (has p h.owed)

-- how often all passes have it
abbrev pub in_hands : ℕ → List Hands → ℕ
in_hands p [] = 0
in_hands p (h ∷ hs) = in_hand p h + in_hands p hs

-- Whether the bit of each page is set, the next word, the words of each page's last version, its logical words, and
-- what the passes have fit together
pub record NumbersFit (set : ℕ → Bool) (next : ℕ) (last logical : ℕ → List ℕ) (hands : List Hands) : Type 0 where
  pub once : (p : ℕ) → unit_if (set p) + in_hands p hands ≤ 1
  -- a number that stands somewhere was claimed
  pub below : (p : ℕ) → 1 ≤ unit_if (set p) + in_hands p hands → p < next
  -- a page whose bit is set has zero words
  pub free : (p : ℕ) → set p ≡ true → (all_zero (last p) ≡ true) × (all_zero (logical p) ≡ true)
  -- a page whose number is held has zero last words, and zero logical ones as long as it is no member of its holder's group
  pub held : (j : ℕ) (h : Hands) → get_elem? hands j ≡ some h → (p : ℕ) → has p h.numbers ≡ true
      → (all_zero (last p) ≡ true) × (has p h.pending ≡ false → all_zero (logical p) ≡ true)
  -- a page that was freed has zero logical words, and zero last ones as soon as it is no member of that group
  pub freed : (j : ℕ) (h : Hands) → get_elem? hands j ≡ some h → (p : ℕ) → has p h.freed ≡ true
      → (all_zero (logical p) ≡ true) × (has p h.pending ≡ false → all_zero (last p) ≡ true)

-- a pass that has none, and one that took in another's
abbrev pub no_hands : Hands
no_hands = record { numbers = []; freed = []; owed = []; pending = [] }

abbrev pub joined_hands : Hands → Hands → Hands
joined_hands h u = record h { numbers = h.numbers ++ u.numbers; freed = h.freed ++ u.freed }

-- a member of a group that its first release frees: its words were not all 0, and its draft's are
abbrev pub zeroed : (ℕ → List ℕ) → (ℕ → List ℕ) → ℕ → Bool
zeroed last drafts q = if all_zero (last q) then false else all_zero (drafts q)

abbrev pub freed_of : (ℕ → List ℕ) → (ℕ → List ℕ) → List ℕ → List ℕ
freed_of last drafts [] = []
freed_of last drafts (q ∷ qs) = if zeroed last drafts q then q ∷ freed_of last drafts qs else freed_of last drafts qs

-- without all of these
abbrev pub less : List ℕ → List ℕ → List ℕ
less [] l = l
less (q ∷ qs) l = less qs (without q l)

-- what a pass has after the first release of the group p, rest; after the release of a later member
abbrev pub after_first : ℕ → List ℕ → (ℕ → List ℕ) → (ℕ → List ℕ) → Hands → Hands
after_first p rest last drafts h =
    record {
      numbers = if all_zero (drafts p) then h.numbers else without p h.numbers;
      freed = freed_of last drafts (p ∷ rest) ++ h.freed;
      owed = less (p ∷ rest) h.owed;
      pending = rest ++ h.pending;
    }

abbrev pub after_later : ℕ → (ℕ → List ℕ) → Hands → Hands
after_later p drafts h = record h {
  numbers = if all_zero (drafts p) then h.numbers else without p h.numbers;
  pending = without p h.pending;
}

-- a pass may release page q with this draft: it changes nothing, or the page is in use, or is owed to the pass, or
-- the pass holds its number
abbrev pub IsUsable : Hands → List ℕ → List ℕ → ℕ → Type 0
IsUsable h last draft q = (draft ≡ last) ⊎ (all_zero last ≡ false) ⊎ (has q h.owed ≡ true) ⊎ (has q h.numbers ≡ true)

-- page q, with these logical words, may get its number back from the pass: it is no member still to be released, or
-- its number is held and the words are 0
abbrev pub IsGivable : Hands → List ℕ → ℕ → Type 0
IsGivable h logical q = (has q h.pending ≡ false) ⊎ ((has q h.numbers ≡ true) × (all_zero logical ≡ true))

-- the page is exclusively the pass's: no other pass has it as a member, or is owed it
abbrev pub IsNoOther : List Hands → ℕ → ℕ → Type 0
IsNoOther hands id q = (j : ℕ) (u : Hands) → (j ≡ id → ⊥) → get_elem? hands j ≡ some u → (has q u.pending ≡ false) × (has q u.owed ≡ false)
