-- A hand that a store gives, and one that comes back.
use Rattle.std.specs.Prelude.{[], ◌++◌, ◌∷◌, ◌≡◌, false, true, ℕ}
use Rattle.vm_rule.specs.Prelude.{entries_by, StartsWith}
use Rattle.vm_step.specs.Prelude.{View}
use Rattle.vm_face.specs.Passes.{hand_number, has_room}
use Rattle.vm_face.specs.declared.store.NoHand.{NoHand}
use Rattle.vm_face.specs.declared.store.NoHand.TheVariants as reasons

-- of so many frames, with so many hands out, of those that ever were: there is no room for one more
abbrev pub IsNoHand : (frames out ever : ℕ) → NoHand → Type 0
IsNoHand frames out ever reasons.Crowded = has_room frames out ever ≡ false
IsNoHand frames out ever reasons.Memory = has_room frames out ever ≡ true

module _ {X : Type 0} where
  -- The store's pass, with the view v, gave a part to a hand's, which has the view u: its view is w then. The hand knows
  -- what the store knows of the history, in which nobody has an entry under its number, and it has done nothing
  pub record IsHandGiven (v u w : View X) : Type 0 where
    pub heard : StartsWith w.seen v.seen
    pub knows : u.seen ≡ w.seen
    pub start : (w.start ≡ v.start) × (u.start ≡ v.start)
    pub mine : (w.mine ≡ v.mine) × (u.mine ≡ [])
    pub unused : entries_by (hand_number u ∷ []) w.seen ≡ []
    pub used : w.used ≡ v.used
    pub notes : u.notes ≡ []

  -- The hand with the view u went back to the store, whose view was v and is w: the history that it knows goes on from
  -- what either knew, and has under the hand's number just the hand's own entries
  pub record IsBackIn (v u w : View X) : Type 0 where
    pub heard : StartsWith w.seen v.seen × StartsWith w.seen u.seen
    pub start : w.start ≡ v.start
    pub used : w.used ≡ v.used ++ hand_number u ∷ []
    pub mine : w.mine ≡ entries_by w.used w.seen
    pub ours : entries_by v.used w.seen ≡ v.mine
    pub theirs : entries_by (hand_number u ∷ []) w.seen ≡ u.mine
