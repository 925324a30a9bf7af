-- Where hands come back, and what a store knows of those that did.
use Rattle.std.specs.Prelude.{[], ◌+◌, ◌∷◌, ◌≡◌, Bool, length, List, map, slice_index, ℕ}
use Rattle.std.specs.declared.snapshot.Snapshot.{Snapshot}
use Rattle.atomic_table.specs.declared.badge.Badge.{Badge}
use Rattle.vm_handover.specs.{declared.ends.Giver.Giver, declared.ends.Taker.Taker, Ends.giver_about, Ends.taker_about}
use Rattle.vm_rule.specs.{declared.words.Pass.Pass, declared.words.Words.Words, Prelude.times, Prelude.view_of}
use Rattle.vm_step.specs.Prelude.{View, view}
use Rattle.vm_face.specs.{Given.IsBackIn, Passes.hand_number, Passes.IsHandOn}

module _ {X : Type 0} where
  -- the number under which a pass with this view gives the next hand
  abbrev pub next_hand : View X → ℕ
  next_hand v = slice_index v.fresh 0

  -- the number of the hand that was given when a pass was known so
  abbrev pub hand_at : Badge (View X) → ℕ
  hand_at k = next_hand (view_of k.views)

  -- what the store's pass was when it made the place, with each of its ends
  abbrev pub made_at : {T : Type 0} → Taker T (Snapshot (Badge (View X))) → Badge (View X)
  made_at home = (taker_about home).value

  abbrev pub made_with : {T : Type 0} → Giver T (Snapshot (Badge (View X))) → Badge (View X)
  made_with way = (giver_about way).value

  -- the hands with these views went back, one after another
  abbrev pub AreBackIn : View X → List (View X) → View X → Type 0
  AreBackIn v [] w = w ≡ v
  AreBackIn v (u ∷ us) w = (x : View X) × IsBackIn v u x × AreBackIn x us w

  -- The store's pass, with the view v, took hands in, and has the view w: hands were out under the numbers `before`, and are under `after`. Each
  -- that went back was out under its number, and is so no more
  pub record HasTakenIn (before after : List ℕ) (v w : View X) : Type 0 where
    pub back : List (View X)
    pub each : AreBackIn v back w
    pub numbers : (k : ℕ) → times k before ≡ times k after + times k (map hand_number back)
    pub count : length before ≡ length after + length back

module _ {U B X : Type 0} {o : _} where
  -- A hand over these words. The store that gave it had a pass of this table then, as is known of that: it gave the hand its next number
  pub record IsHandOf (k : Badge (View X)) (w : Words U B X o) (tells : Bool) (p : Pass U X o) (held : List ℕ) : Type 0 where
    pub hand : IsHandOn w tells p held
    pub table : k.table_id ≡ p.badge.table_id
    pub number : hand_number (view p) ≡ hand_at k
