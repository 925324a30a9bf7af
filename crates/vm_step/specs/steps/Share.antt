-- A share that is taken or given up: what may be said at it, when it may be given up, and their events. `ShareTold`
-- and `UnshareTold` stand in
-- vm_rule/specs/Locks.
use Rattle.std.specs.Prelude.{[], ◌++◌, ◌-◌, ◌<◌, ◌^◌, ◌∷◌, ◌≡◌, ◌≤◌, ◌⊎◌}
use Rattle.std.specs.Prelude.{Bool, length, List, map, None, Option, slice_set, true, ℕ}
use Rattle.vm_event.specs.Prelude.{MayShare, one_share_more, state_of, version_of, word_of}
use Rattle.vm_event.specs.declared.event.Event.TheVariants.{LockS, UnlockS}
use Rattle.vm_event.specs.declared.event.Seen.TheVariants as sights
use Rattle.vm_rule.specs.Prelude.{began_of, Each, entries_of, Entry, Kept, last_of}
use Rattle.vm_rule.specs.Prelude.{LockValidates, seat_of, ShareTold, Start, Stored, Table}
use Rattle.vm_rule.specs.Prelude.{UnshareTold}
use Rattle.vm_rule.specs.{declared.view.Origin.Origin, declared.view.View.View}
use Rattle.vm_rule.specs.declared.view.WordPlace.TheVariants as places
use Rattle.vm_step.specs.Conditions.{IsNotOut, IsToldOf}
use Rattle.vm_step.specs.Events.{exchange_sees, exchanged, FindsAt, IsEvent, IsPassOf, table_after}
use Rattle.vm_step.specs.Keeping.{IsKeptNow}

module _ {X : Type 0} where
  -- pages with their last words, as the pass knows them
  abbrev pub pages_known : View X → List ℕ → List (ℕ × List ℕ)
  pages_known v qs = map (λ q. (q, (last_of v q).words)) qs

  -- the pass has a share of the page
  abbrev pub HasShare : View X → ℕ → Type 0
  HasShare v q = (q < v.start.pages) × (1 ≤ (seat_of v q).shares)

  -- nothing is said; or the pages qs, of which the pass has shares, and behind them p prove what is said, whichever
  -- words p has that the lock
  -- validates at this version
  abbrev pub MayTellHeld : (Start → ℕ → List ℕ → ℕ → List ℕ → Type 0)
      → (Start → List (ℕ × List ℕ) → List (Entry X) → Type 0) → ℕ → ℕ → Option X → View X → Type 0
  MayTellHeld tied may_hold p version said v =
      (said ≡ None)
      ⊎ (v.start.tells ≡ true → (qs : List ℕ) × Each (HasShare v) qs
      × ((words : List ℕ) → length words ≡ v.start.size → LockValidates tied p version words v
      → may_hold (began_of v.start) (pages_known v qs ++ (p, words) ∷ []) (entries_of v said)))

  -- and what the layer above keeps then, where the share is taken
  abbrev pub LockSharedTells : (Start → Kept X → Type 0) → (Start → ℕ → List ℕ → ℕ → List ℕ → Type 0) → Bool → ℕ → ℕ
      → Option X → ℕ → View X → View X → Type 0
  LockSharedTells keeps tied tells p expects said found v w = ShareTold tied p expects said found v w ×
      (tells ≡ true → found ≡ expects → IsKeptNow keeps p (Unit {0}) w)

  pub record MayUnshare (v : View X) (p : ℕ) : Type 0 where
    pub has : 1 ≤ (seat_of v p).shares
    pub told : (seat_of v p).writing ≡ true → (seat_of v p).shares ≡ 1 → IsToldOf v p
    pub home : IsNotOut v p

module _ {X B : Type 0} (stored : B → Stored) (keeps : Start → Kept X → Type 0)
    (tied : Start → ℕ → List ℕ → ℕ → List ℕ → Type 0) (tells : Bool) where
  -- a share that is tried sees the same
  abbrev pub LockSharedIsItsEvent : Type 0
  LockSharedIsItsEvent =
      (start : Origin) (s : Table (Option B) (View X)) (id p expects found : ℕ) (said : Option X) (v w : View X)
      → IsPassOf stored start keeps tied tells s id v
      → FindsAt start s (places.State p) found → MayShare expects → ShareTold tied p expects said found v w
      → IsEvent stored start s
      (table_after s (exchanged s.words p expects found (word_of (one_share_more (state_of expects)) (version_of expects))) id w)
      (LockS id p expects) (exchange_sees expects found)

  -- a share that is given up sees the word before
  abbrev pub UnlockSharedIsItsEvent : Type 0
  UnlockSharedIsItsEvent =
      (start : Origin) (s : Table (Option B) (View X)) (id p found : ℕ) (v w : View X) → IsPassOf stored start keeps tied tells s id v
      → FindsAt start s (places.State p) found → MayUnshare v p → UnshareTold p found v w
      → IsEvent stored start s (table_after s (slice_set s.words p (found - 2 ^ 56)) id w) (UnlockS id p) (sights.Word found)
