-- The passes of a store and of its hands, over the words of one pool.
use Rattle.std.specs.Prelude.{[], ◌&&◌, ◌*◌, ◌+◌, ◌<◌, ◌∷◌, ◌≡◌, ◌≤◌, ◌⊎◌, Bool, length, List, nat_le, nat_lt, slice_index, true, ℕ}
use Rattle.atomic_table.specs.declared.badge.Badge.{Badge}
use Rattle.vm_rule.specs.{declared.words.Pass.Pass, declared.words.Words.Words}
use Rattle.vm_rule.specs.Prelude.{Each, has, HoldsNoPage, owns, PARTS}
use Rattle.vm_step.specs.Prelude.{AreHeld, IsReadyOn, View, view}

module _ {X : Type 0} where
  -- the part that a hand's pass has
  abbrev pub hand_number : View X → ℕ
  hand_number v = slice_index v.used 0

  -- a hand's pass holds no page, and has one part, its number
  pub record IsHandView (v : View X) : Type 0 where
    pub holds : HoldsNoPage v
    pub parts : (v.used ≡ hand_number v ∷ []) × (v.fresh ≡ [])
    pub inside : hand_number v < PARTS

  -- each part that the view has not is one of these, which are at most so many
  pub record MissesFew (most : ℕ) (v : View X) : Type 0 where
    pub away : List ℕ
    pub few : length away ≤ most
    pub others : (k : ℕ) → k < PARTS → (1 ≤ owns k v) ⊎ (has k away ≡ true)

  -- The pass of a store, of which so many hands are out, and so many were given ever: it holds no page, knows the
  -- table as it stood at its last step, and has all parts but for those of hands that are out. A part that was given
  -- once is never given again
  pub record IsStoreView (out ever : ℕ) (v : View X) : Type 0 where
    pub holds : HoldsNoPage v
    pub current : v.current ≡ true
    pub missing : MissesFew out v
    pub fresh : length v.fresh + ever + 1 ≡ PARTS
    pub inside : (k : ℕ) → has k v.fresh ≡ true → k < PARTS

module _ {U B X : Type 0} {o : _} where
  -- a hand's pass may step on these words, which have a page, and holds its interface's frames
  pub record IsHandOn (w : Words U B X o) (tells : Bool) (p : Pass U X o) (held : List ℕ) : Type 0 where
    pub ready : IsReadyOn w tells p
    pub pages : 1 ≤ w.table.shared.key.pages
    pub hand : IsHandView (view p)
    pub frames : AreHeld held (view p)

  -- a store's pass may step on these words, which have two pages
  pub record IsStoreOn (w : Words U B X o) (tells : Bool) (p : Pass U X o) (out ever : ℕ) : Type 0 where
    pub ready : IsReadyOn w tells p
    pub pages : 2 ≤ w.table.shared.key.pages
    pub store : IsStoreView out ever (view p)

  -- a store's pass whose hands that are out come back where it is about a pass of this table
  pub record IsStore (w : Words U B X o) (tells : Bool) (p : Pass U X o) (homes : List (Badge (View X))) (ever : ℕ) : Type 0 where
    pub on : IsStoreOn w tells p (length homes) ever
    pub ways : Each (λ k. k.table_id ≡ w.table.shared.table_id) homes

-- a hand more may be out, of these that are out, and that ever were
abbrev pub has_room : (frames out ever : ℕ) → Bool
has_room frames out ever = nat_lt out 64 && nat_lt ever 4294967295 && nat_le (8 * (out + 1)) frames
