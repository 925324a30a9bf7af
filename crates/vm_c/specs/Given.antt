-- A hand that a store gives, and those that it takes in.
use Rattle.std.specs.Prelude.{[], ◌++◌, ◌+◌, ◌∷◌, ◌≡◌, ◌⊎◌, Bool, false, length, map, None, Option, Some, true, ℕ}
use Rattle.std.specs.Arc.{arc_value}
use Rattle.vm_face.specs.Homes.{made_at, made_with}
use Rattle.vm_step.specs.Prelude.{view}
use Rattle.vm_face.specs.{Given.IsHandGiven, Homes.HasTakenIn, Homes.hand_at, Passes.has_room}
use Rattle.vm_c.specs.{declared.opened.OpenHand.OpenHand, declared.opened.OpenStore.OpenStore, Fits.IsFitStore}

-- how many hands of the store are out
abbrev pub hands_out : OpenStore → ℕ
hands_out s = length s.store.homes.items

-- a hand more of the store may be out
abbrev pub may_give : OpenStore → Bool
may_give s = has_room (arc_value s.store.pool).words.table.shared.key.frames (hands_out s) s.store.ever

-- the store took in the hands that were back, and is as it was but for what they did: fit again
pub record TookIn (before after : OpenStore) : Type 0 where
  pub fit : IsFitStore after
  pub taken : HasTakenIn (map (λ h. hand_at (made_at h)) before.store.homes.items) (map (λ h. hand_at (made_at h)) after.store.homes.items)
      (view before.store.pass) (view after.store.pass)
  pub pool : arc_value after.store.pool ≡ arc_value before.store.pool
  pub ever : after.store.ever ≡ before.store.ever

-- the store gave this hand: one more is out, whose way back is to this store
pub record IsOneMore (before : OpenStore) (hand : OpenHand) (after : OpenStore) : Type 0 where
  pub given : IsHandGiven (view before.store.pass) (view hand.hand.pass) (view after.store.pass)
  pub home : map made_at after.store.homes.items ≡ map made_at before.store.homes.items ++ (made_with hand.hand.way) ∷ []
  pub pool : (arc_value after.store.pool ≡ arc_value before.store.pool) × (arc_value hand.hand.pool ≡ arc_value before.store.pool)
  pub ever : after.store.ever ≡ before.store.ever + 1

-- For want of memory there is no hand: the store, which might have given one, is as it was, or it gave one, and that
-- went back at once
abbrev pub IsGivenInVain : OpenStore → OpenStore → Type 0
IsGivenInVain between after = (may_give between ≡ true) × ((after ≡ between) ⊎ ((hand : OpenHand) × IsOneMore between hand after))

-- The store took in the hands that were back. Then the number is 0, and there is a hand; or 11, as no hand more may
-- be out; or 10
abbrev pub GivesHand : OpenStore → OpenStore → Option OpenHand → (number : ℕ) → Type 0
GivesHand before after (Some hand) number = (between : OpenStore) × TookIn before between × (number ≡ 0) × IsOneMore between hand after
GivesHand before after None number =
    (between : OpenStore) × TookIn before between
    × (((number ≡ 11) × (after ≡ between) × (may_give between ≡ false)) ⊎ ((number ≡ 10) × IsGivenInVain between after))
