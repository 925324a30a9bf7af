-- A release of a page that is locked exclusively, as Unlocked, as Evicted or to a share: when it may be released,
-- what each tells, and their events.
-- `ReleaseTold`, `EvictTold` and `DowngradeTold` stand in vm_rule/specs/Releases.
use Rattle.std.specs.Prelude.{[], ◌+◌, ◌<◌, ◌==◌, ◌∷◌, ◌≡◌, ◌≢◌, ◌≤◌, ◌⊎◌}
use Rattle.std.specs.Prelude.{Bool, false, if◌then◌else◌, IsSome, length, List, None, Option}
use Rattle.std.specs.Prelude.{slice_set, true, ℕ}
use Rattle.vm_event.specs.Prelude.{EVICTED, MAX_VERSION, word_of}
use Rattle.vm_event.specs.declared.event.Event.TheVariants.{Downgrade, Release, ReleaseE}
use Rattle.vm_event.specs.declared.event.Seen.TheVariants as sights
use Rattle.vm_rule.specs.from_vm_numbers.Hands.{IsUsable}
use Rattle.vm_rule.specs.Rule.{hands_of}
use Rattle.vm_rule.specs.Prelude.{AreApart, AreUnchanged, began_of, Change, changes_of, DowngradeTold, draft_of, Each}
use Rattle.vm_rule.specs.Prelude.{entries_of, Entry, EvictTold, has, held_at, index_of, Kept, last_of, no_held}
use Rattle.vm_rule.specs.Prelude.{put_at, ReleaseTold, seat_of, Start, Stored, Table}
use Rattle.vm_rule.specs.{declared.view.Origin.Origin, declared.view.View.View}
use Rattle.vm_rule.specs.declared.view.WordPlace.TheVariants as places
use Rattle.vm_step.specs.{Conditions.IsNotOut, Conditions.IsToldOf, Keeping.IsKeptNow}
use Rattle.vm_step.specs.Events.{IsEvent, IsPassOf, table_after}

module _ {X : Type 0} where
  -- the page is the pass's to use, as far as it can know, where its words are not those that it had: it is in use, is
  -- owed to the pass, or the pass holds its number
  abbrev pub IsClaimed : View X → ℕ → Type 0
  IsClaimed v q = IsUsable (hands_of v) (last_of v q).words (draft_of v q) q

  -- a member of a group that is not released yet in part
  pub record IsMember (v : View X) (q : ℕ) : Type 0 where
    pub page : q < v.start.pages
    pub owns : (seat_of v q).exclusive ≡ true
    pub free : has q v.pending ≡ false
    pub claimed : v.start.tells ≡ true → IsClaimed v q

  -- p is the first of a group with the others `rest`, or alone; the layer above lets the changes be made, or there
  -- are none
  pub record IsFirst (may_release : Start → List ℕ → List Change → List (Entry X) → Type 0) (p : ℕ) (rest : List ℕ) (said : Option X)
      (v : View X) : Type 0 where
    pub members : Each (IsMember v) (p ∷ rest)
    pub apart : AreApart (p ∷ rest)
    pub few : length rest ≤ 31
    pub owner : v.start.tells ≡ true → ((said ≡ None) × AreUnchanged v.owed (changes_of v (p ∷ rest))) ⊎
        may_release (began_of v.start) v.owed (changes_of v (p ∷ rest)) (entries_of v said)

  -- p is a later member of its group, which says nothing more
  pub record IsLater (p : ℕ) (rest : List ℕ) (said : Option X) (v : View X) : Type 0 where
    pub pending : has p v.pending ≡ true
    pub alone : rest ≡ []
    pub silent : said ≡ None

  pub record MayGiveUp (may_release : Start → List ℕ → List Change → List (Entry X) → Type 0) (p version : ℕ)
      (rest : List ℕ) (said : Option X)
      (v : View X) : Type 0 where
    pub owns : (seat_of v p).exclusive ≡ true
    pub resident : IsSome (put_at no_held v.held p).mapping
    pub owned : (held_at v p).owner ≡ p + 1
    pub told : IsToldOf v p
    pub home : IsNotOut v p
    pub at : version ≡ (last_of v p).version
    pub group : IsFirst may_release p rest said v ⊎ IsLater p rest said v

  -- as far as the page alone is concerned, the pass may release it at this version as one that is resident
  pub record IsReleasable (version : ℕ) (v : View X) (p : ℕ) : Type 0 where
    pub owns : (seat_of v p).exclusive ≡ true
    pub resident : IsSome (held_at v p).mapping
    pub owned : (held_at v p).owner ≡ p + 1
    pub told : IsToldOf v p
    pub home : IsNotOut v p
    pub at : version ≡ (last_of v p).version

  -- the pages `qs` under one state word may be released together: h, the first of them, as the first of a group with
  -- the others `rest`, to which the other pages belong
  pub record MayGiveUpAll (may_release : Start → List ℕ → List Change → List (Entry X) → Type 0) (qs : List ℕ) (h version : ℕ)
      (rest : List ℕ) (said : Option X) (v : View X) : Type 0 where
    pub first : IsFirst may_release h rest said v
    pub each : (q : ℕ) → has q qs ≡ true → IsReleasable version v q
    pub among : (q : ℕ) → has q qs ≡ true → q ≢ h → has q rest ≡ true

  -- p is released alone to a share, and nothing is said
  pub record MayDowngrade (may_release : Start → List ℕ → List Change → List (Entry X) → Type 0) (v : View X) (p version : ℕ) : Type 0 where
    pub owns : (seat_of v p).exclusive ≡ true
    pub resident : IsSome (held_at v p).mapping
    pub owned : (held_at v p).owner ≡ p + 1
    pub told : IsToldOf v p
    pub home : IsNotOut v p
    pub at : version ≡ (last_of v p).version
    pub first : IsFirst may_release p [] None v

  -- p is not resident, and is neither a member of a group still to be released nor owed
  pub record MayEvict (v : View X) (p version : ℕ) : Type 0 where
    pub owns : (seat_of v p).exclusive ≡ true
    pub empty : (held_at v p).mapping ≡ None
    pub told : IsToldOf v p
    pub home : IsNotOut v p
    pub at : version ≡ (last_of v p).version
    pub free : has p v.pending ≡ false
    pub paid : has p v.owed ≡ false

  -- what each way of release tells, and what the layer above keeps then
  abbrev pub ReleaseTells : (Start → Kept X → Type 0) → Bool → ℕ → (View X → View X → Type 0) → View X → View X → Type 0
  ReleaseTells keeps tells p told v w = told v w × (tells ≡ true → IsKeptNow keeps p (Unit {0}) w)

  -- what the release of page q tells as one of a group whose first page is h: with h alone the group's others become
  -- logical, and what is said an entry
  abbrev pub ReleaseTellsOf : (Start → Kept X → Type 0) → Bool → ℕ → ℕ → List ℕ → Option X → ℕ → View X → View X
      → Type 0
  ReleaseTellsOf keeps tells h version rest said q =
      ReleaseTells keeps tells q (ReleaseTold q version (if q == h then rest else []) (if q == h then said else None))

module _ {X B : Type 0} (stored : B → Stored) (keeps : Start → Kept X → Type 0)
    (tied : Start → ℕ → List ℕ → ℕ → List ℕ → Type 0) (tells : Bool) where
  -- a release of a page that the pass holds exclusively sees nothing: the page is Unlocked at its next version
  abbrev pub ReleaseIsItsEvent : (Start → List ℕ → List Change → List (Entry X) → Type 0) → Type 0
  ReleaseIsItsEvent may_release =
      (start : Origin) (s : Table (Option B) (View X)) (id p version : ℕ) (rest : List ℕ) (said : Option X) (v w : View X)
      → IsPassOf stored start keeps tied tells s id v → p < start.pages → version < MAX_VERSION
      → MayGiveUp may_release p version rest said v
      → ReleaseTold p version rest said v w
      → IsEvent stored start s (table_after s (slice_set s.words (index_of start (places.State p)) (version + 1)) id
      w) (Release id p) sights.Done

  -- a release of a page that is not resident sees nothing: the page is Evicted at its next version
  abbrev pub ReleaseEvictedIsItsEvent : Type 0
  ReleaseEvictedIsItsEvent =
      (start : Origin) (s : Table (Option B) (View X)) (id p version : ℕ) (v w : View X)
      → IsPassOf stored start keeps tied tells s id v → p < start.pages
      → version < MAX_VERSION → MayEvict v p version → EvictTold p version v w
      → IsEvent stored start s (table_after s (slice_set s.words (index_of start (places.State p)) (word_of EVICTED (version + 1))) id w)
      (ReleaseE id p) sights.Done

  -- a release to a share of the pass sees nothing: the page is at its next version, with one share
  abbrev pub DowngradeIsItsEvent : (Start → List ℕ → List Change → List (Entry X) → Type 0) → Type 0
  DowngradeIsItsEvent may_release =
      (start : Origin) (s : Table (Option B) (View X)) (id p version : ℕ) (v w : View X)
      → IsPassOf stored start keeps tied tells s id v → p < start.pages
      → version < MAX_VERSION → MayDowngrade may_release v p version → DowngradeTold p version v w
      → IsEvent stored start s
      (table_after s (slice_set s.words (index_of start (places.State p)) (word_of 1 (version + 1))) id w)
      (Downgrade id p) sights.Done
