-- A look at a page's state word: what may be said at it, what it tells, and its event. `LookTold` stands in
-- vm_rule/specs/Looks.
use Rattle.std.specs.Prelude.{◌==◌, ◌≡◌, ◌⊎◌, Bool, if◌then◌else◌, length, List, map, None, Option, Some, true, ℕ}
use Rattle.vm_event.specs.{declared.event.Event.TheVariants.Look, declared.event.ReadIs.TheVariants.Same}
use Rattle.vm_event.specs.{Prelude.LoadsAre}
use Rattle.vm_event.specs.declared.event.Seen.TheVariants as sights
use Rattle.vm_owner.specs.Numbers.{has}
use Rattle.vm_rule.specs.{declared.view.Origin.Origin, declared.view.View.View}
use Rattle.vm_rule.specs.Prelude.{began_of, Each, entries_of, Entry, Kept, left_at, loads_at}
use Rattle.vm_rule.specs.Prelude.{LookTold, Open, seat_of, Start, Stored, Table}
use Rattle.vm_rule.specs.declared.view.WordPlace.TheVariants as places
use Rattle.vm_step.specs.{Alone.KnowsUnheld, Events.FindsAt, Events.IsEvent}
use Rattle.vm_step.specs.{Events.IsPassOf, Events.table_after, Keeping.IsKeptNow}

module _ {X : Type 0} where
  -- nothing is said; or every page that has the loaded words, and what the page and the pages that were validated say
  -- of it, proves what is said
  abbrev pub MayTell : (Start → ℕ → List ℕ → ℕ → List ℕ → Type 0) → (Start → ℕ → List ℕ → List (Entry X) → Type 0) → ℕ
      → Option X → View X → Type 0
  MayTell tied may_read p said v =
      (said ≡ None)
      ⊎ (v.start.tells ≡ true → (o : Open) → (seat_of v p).reading ≡ Some o → (words : List ℕ)
      → length words ≡ v.start.size → LoadsAre words (loads_at v p)
      → tied (began_of v.start) p words p words
      → Each (λ t. t.page ≡ p → t.version ≡ o.version → tied (began_of v.start) t.of t.words p words) v.ties
      → may_read (began_of v.start) p words (entries_of v said))

  -- words that the pages qs may have together where the pass's open reads of them stay, all at this version: they are
  -- those that were loaded, and what these pages and the pages that were validated say of them holds
  pub record AreReadTogether (tied : Start → ℕ → List ℕ → ℕ → List ℕ → Type 0) (qs : List ℕ) (version : ℕ)
      (words : ℕ → List ℕ) (v : View X) : Type 0 where
    pub size : (q : ℕ) → has q qs ≡ true → length (words q) ≡ v.start.size
    pub loaded : (q : ℕ) → has q qs ≡ true → LoadsAre (words q) (loads_at v q)
    pub ties : (q p : ℕ) → has q qs ≡ true → has p qs ≡ true → tied (began_of v.start) q (words q) p (words p)
    pub holds : (q : ℕ) → has q qs ≡ true →
        Each (λ t. t.page ≡ q → t.version ≡ version → tied (began_of v.start) t.of t.words q (words q)) v.ties

  -- nothing is said; or the pass has an open read of each of the pages qs, all at the version of that of page h, and
  -- whichever words they may have together prove what is said
  abbrev pub MayTellTogether : (Start → ℕ → List ℕ → ℕ → List ℕ → Type 0)
      → (Start → List (ℕ × List ℕ) → List (Entry X) → Type 0) → List ℕ → ℕ → Option X → View X → Type 0
  MayTellTogether tied may_hold qs h said v =
      (said ≡ None)
      ⊎ (v.start.tells ≡ true → (o : Open) → (seat_of v h).reading ≡ Some o
      → ((q : ℕ) → has q qs ≡ true → (x : Open) × ((seat_of v q).reading ≡ Some x) × (x.version ≡ o.version))
      × ((words : ℕ → List ℕ) → AreReadTogether tied qs o.version words v
      → may_hold (began_of v.start) (map (λ q. (q, words q)) qs) (entries_of v said)))

  -- what page q of a group says, whose first page h says it
  abbrev pub said_at : ℕ → Option X → ℕ → Option X
  said_at h said q = if q == h then said else None

  -- and what the layer above keeps then, and what a pass that is alone knows of pages that it does not hold
  abbrev pub LookTells : (Start → Kept X → Type 0) → (Start → ℕ → List ℕ → ℕ → List ℕ → Type 0) → Bool → ℕ → Option X
      → ℕ → View X → View X → Type 0
  LookTells keeps tied tells p said found v w = LookTold tied p said found v w ×
      (tells ≡ true → IsKeptNow keeps p (left_at found (seat_of v p).reading ≡ Same) w) × KnowsUnheld w

module _ {X B : Type 0} (stored : B → Stored) (keeps : Start → Kept X → Type 0)
    (tied : Start → ℕ → List ℕ → ℕ → List ℕ → Type 0) (tells : Bool) where
  -- a look sees the word, and what it leaves of the pass's open read
  abbrev pub LookIsItsEvent : Type 0
  LookIsItsEvent =
      (start : Origin) (s : Table (Option B) (View X)) (id p found : ℕ) (said : Option X) (v w : View X)
      → IsPassOf stored start keeps tied tells s id v
      → FindsAt start s (places.State p) found → LookTold tied p said found v w
      → IsEvent stored start s (table_after s s.words id w) (Look id p) (sights.Look found (left_at found (seat_of v p).reading))
