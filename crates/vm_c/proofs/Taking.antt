-- What a store is when it took hands in, and gave one.
use Rattle.std.proofs.Common.{◌≡◌, ◌≤◌, ap, inl, inr, List, map, None, Option, refl, Some, subst, sym, true, ℕ}
use Rattle.std.specs.Prelude.{IfSome}
use Rattle.std.specs.Vec.{vec_capacity}
use Rattle.vm_step.specs.Prelude.{view}
use Rattle.vm_face.specs.{Homes.HasTakenIn, Homes.made_at, Homes.hand_at, Passes.IsStore}
use Rattle.vm_c.specs.{Closed.Closes, Closed.ImageAndCounts, Closed.IsClosedInto}
use Rattle.vm_c.specs.{Closed.IsUnclosed, declared.closing.BlockCounts.BlockCounts}
use Rattle.vm_c.specs.declared.closing.Unclosed.{Unclosed}
use Rattle.vm_face.specs.declared.store.NoHand.{NoHand}
use Rattle.vm_face.specs.declared.store.NoHand.TheVariants as reasons
use Rattle.vm_face.specs.Given.{IsNoHand}
use Rattle.std.specs.Arc.{arc_value}
use Rattle.vm_c.specs.{Answers.refused_hand, declared.opened.OpenHand.OpenHand, declared.opened.OpenStore.OpenStore}
use Rattle.vm_c.specs.Given.{GivesHand, hands_out, IsOneMore, TookIn}

pub as-open : (a b : OpenStore) → a.store ≡ b.store → a ≡ b
as-open a b same = ap {B = OpenStore} (λ s. record { store = s }) same

-- no hand, and the store as it was behind those that it took in, with the number of the reason
pub gives-none : (before between after : OpenStore) (why : NoHand) → after.store ≡ between.store → TookIn before between
    → IsNoHand (arc_value between.store.pool).words.table.shared.key.frames (hands_out between) between.store.ever why
    → GivesHand before after None (refused_hand why)
gives-none before between after reasons.Crowded same took none = (between, took, inl (refl, as-open after between same, none))
gives-none before between after reasons.Memory same took none = (between, took, inr (refl, (none, inl (as-open after between same))))

pub gives-as : (before between after : OpenStore) (one other : OpenHand) → one ≡ other → TookIn before between → IsOneMore between other after
    → GivesHand before after (Some one) 0
gives-as before between after one other same took given =
    (between, took, refl, subst (λ (h : OpenHand). IsOneMore between h after) (sym same) given)

pub took-in : (before after : OpenStore)
    → IsStore (arc_value after.store.pool).words true after.store.pass (map made_at after.store.homes.items) after.store.ever
    → 64 ≤ vec_capacity after.store.homes
    → HasTakenIn (map (λ h. hand_at (made_at h)) before.store.homes.items) (map (λ h. hand_at (made_at h)) after.store.homes.items)
    (view before.store.pass) (view after.store.pass)
    → arc_value after.store.pool ≡ arc_value before.store.pool → after.store.ever ≡ before.store.ever → TookIn before after
took-in before after store room taken pool ever = record { fit = (store, room); taken = taken; pool = pool; ever = ever }

-- ---- what a handle held

pub if-some : {T : Type 0} {o : Option T} {x : T} (P : T → Type 0) → o ≡ Some x → P x → IfSome o P
if-some P same held = subst (λ (v : Option _). IfSome v P) (sym same) held

-- ---- what giving a hand answers

pub given-as : (stores store : Option OpenStore) (hand gives : Option OpenHand) (before old after : OpenStore) (number : ℕ)
    → stores ≡ Some before → old ≡ before → store ≡ Some after → hand ≡ gives → GivesHand old after gives number
    → IfSome stores (λ b. IfSome store (λ a. GivesHand b a hand number))
given-as stores store hand gives before old after number had same has is given =
    if-some (λ (b : OpenStore). IfSome store (λ a. GivesHand b a hand number)) had
    (if-some (λ (a : OpenStore). GivesHand before a hand number) has
    (subst (λ (h : Option OpenHand). GivesHand before after h number) (sym is)
    (subst (λ (b : OpenStore). GivesHand b after gives number) same given)))

-- ---- what closing answers

pub unclosed-as : (s : OpenStore) (old new : List ℕ) (why reason : Unclosed) → why ≡ reason → IsUnclosed s old new why
    → IsUnclosed s old new reason
unclosed-as s old new why reason same held = subst (λ (w : Unclosed). IsUnclosed s old new w) same held

module _ (s : OpenStore) (image : List ℕ) (counts : BlockCounts) where
  abbrev pub was : ImageAndCounts
  was = record { image = image; counts = counts }

  same-image : (new : List ℕ) → new ≡ image → record { image = new; counts = counts } ≡ was
  same-image new same = ap {B = ImageAndCounts} (λ i. record { image = i; counts = counts }) same

  pub closes-done : (after : Option OpenStore) (new : List ℕ) (told : BlockCounts) (between : OpenStore) → after ≡ None → TookIn s between
      → IsClosedInto between new told → Closes s after was (record { image = new; counts = told }) 0
  closes-done after new told between none took closed = inr (between, took, inl (refl, none, closed))

  pub closes-hands : (after : Option OpenStore) (new : List ℕ) (between : OpenStore) → after ≡ Some between → TookIn s between → new ≡ image
      → 1 ≤ hands_out between → Closes s after was (record { image = new; counts = counts }) 11
  closes-hands after new between held took same out = inr (between, took, inr (inl (refl, held, same-image new same, out)))

  pub closes-shared : (after : Option OpenStore) (new : List ℕ) (between : OpenStore) → after ≡ Some between → TookIn s between → new ≡ image
      → hands_out between ≡ 0 → Closes s after was (record { image = new; counts = counts }) 1
  closes-shared after new between held took same none = inr (between, took, inr (inr (inl (refl, held, same-image new same, none))))

  pub closes-vain : (after : Option OpenStore) (new : List ℕ) (between : OpenStore) → after ≡ None → TookIn s between → new ≡ image
      → hands_out between ≡ 0 → Closes s after was (record { image = new; counts = counts }) 10
  closes-vain after new between gone took same none = inr (between, took, inr (inr (inr (refl, gone, same-image new same, none))))
