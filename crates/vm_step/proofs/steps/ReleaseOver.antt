-- A group is released, as Unlocked or as Evicted: each of its pages in turn, in one step. As Unlocked its first page
-- makes the drafts of the others logical, and these are released as later members: so the layer above sees one change
-- of all of them.
use Rattle.std.proofs.lemmas.Bool.{cases_eq, cases_Bool, cond-false, cond-true, eq-eqb, false≢true, ne_eqb}
use Rattle.vm_event.specs.Groups.{head_in}
use Rattle.vm_owner.proofs.NumberLemmas.{has-both, has-without_other}
use Rattle.vm_owner.specs.Kept.{after_release, Fits, IsTurn, MayMove, moved, NumberMove}
use Rattle.vm_rule.proofs.GroupWords.{group-first}
use Rattle.vm_rule.specs.Spread.{group_of}
use Rattle.vm_rule.specs.declared.view.Out.{Out}
use Rattle.vm_step.proofs.{Fit.fit, Over.has-head, Over.has-tail, Over.over-allows, Over.over-each}
use Rattle.vm_step.proofs.Prelude.{[], AllowsStep, ap, became, Bool, Change, Each, Entry}
use Rattle.vm_step.proofs.Prelude.{EVICTED, EvictTold, false, get_elem?, has, Held, held_at}
use Rattle.vm_step.proofs.Prelude.{if◌then◌else◌, inl, inr, IsFit, IsFirst, IsSome}
use Rattle.vm_step.proofs.Prelude.{Kept, length, List, MAX_VERSION, MayEvict, MayGiveUp}
use Rattle.vm_step.proofs.Prelude.{None, Option, Origin, refl, ReleaseTells, ReleaseTold, Ruled, Seat}
use Rattle.vm_step.proofs.Prelude.{seat_of, slice_index, slice_set, Some, some, Stands, Start, Stored}
use Rattle.vm_step.proofs.Prelude.{subst, sym, Table, TableShape, told_of, true, Version, View}
use Rattle.vm_step.proofs.Prelude.{without, word_of, ℕ, ⊎_elim, ◌++◌, ◌+◌, ◌<◌}
use Rattle.vm_step.proofs.Prelude.{◌||◌, ◌∙◌, ◌∷◌, ◌≡◌, ◌≢◌, eqb, last_of}
use Rattle.vm_step.proofs.steps.Release.{evict-others, release-others, release-plays, release_evicted-plays}
use Rattle.vm_step.specs.Over.{InTurn}
use Rattle.vm_step.specs.steps.Release.{IsReleasable, MayGiveUpAll, ReleaseTellsOf}

-- ---- what the release of one page leaves of another

module _ {X : Type 0} {version : ℕ} {v w : View X} where
  releasable-stays : (q p : ℕ) (rest : List ℕ) (said : Option X) → ReleaseTold q version rest said v w → p ≢ q
      → IsReleasable version v p
      → IsReleasable version w p
  releasable-stays q p rest said t ne k =
      let o = release-others t (λ x. x ≡ q) refl in
      record {
        owns = ap (λ (y : Seat). y.exclusive) (o.seats p ne) ∙ k.owns;
        resident = subst (λ (y : Held). IsSome y.mapping) (sym (o.held p ne)) k.resident;
        owned = ap (λ (y : Held). y.owner) (o.held p ne) ∙ k.owned;
        told = subst (λ (y : Held). y.fault ≡ y.block.count) (sym (o.held p ne)) k.told;
        home = subst (λ (y : Option Out). (z : Out) → y ≡ Some z → z.page ≢ p) (sym o.out) k.home;
        at = k.at ∙ ap (λ (y : Version). y.version) (sym (o.last p ne (inl k.owns)));
      }

  evictable-stays : (q p : ℕ) → EvictTold q version v w → p ≢ q → MayEvict v p version → MayEvict w p version
  evictable-stays q p t ne k =
      let o = evict-others t (λ x. x ≡ q) refl in
      record {
        owns = ap (λ (y : Seat). y.exclusive) (o.seats p ne) ∙ k.owns;
        empty = ap (λ (y : Held). y.mapping) (o.held p ne) ∙ k.empty;
        told = subst (λ (y : Held). y.fault ≡ y.block.count) (sym (o.held p ne)) k.told;
        home = subst (λ (y : Option Out). (z : Out) → y ≡ Some z → z.page ≢ p) (sym o.out) k.home;
        at = k.at ∙ ap (λ (y : Version). y.version) (sym (o.last p ne (inl k.owns)));
        free = ap (λ (y : View X). has p y.pending) t.brings.view ∙ k.free;
        paid = ap (λ (y : View X). has p y.owed) t.brings.view ∙ k.paid;
      }

  -- the first release makes the others pending
  pending-made : (h : ℕ) (rest : List ℕ) (said : Option X) → ReleaseTold h version rest said v w
      → has h v.pending ≡ false → (p : ℕ)
      → has p rest ≡ true → has p w.pending ≡ true
  pending-made h rest said t free p is =
      ap (λ (y : View X). has p y.pending) t.brings.view
      ∙ ap (has p) (cond-false (has h v.pending) (without h v.pending) (rest ++ v.pending) free)
      ∙ has-both p rest v.pending ∙ ap (λ b. b || has p v.pending) is

  -- a later one leaves the others pending
  pending-left : (q p : ℕ) → ReleaseTold q version [] None v w → p ≢ q → has q v.pending ≡ true → has p v.pending ≡ true
      → has p w.pending ≡ true
  pending-left q p t ne there is =
      ap (λ (y : View X). has p y.pending) t.brings.view
      ∙ ap (has p) (cond-true (has q v.pending) (without q v.pending) v.pending there)
      ∙ has-without_other q p v.pending ne ∙ is

module _ {X B : Type 0} (stored : B → Stored) (keeps : Start → Kept X → Type 0)
    (tied : Start → ℕ → List ℕ → ℕ → List ℕ → Type 0) (may_release : Start → List ℕ → List Change → List (Entry X)
    → Type 0)
    (law : (start : Start) (kept : Kept X) (due : List ℕ) (changes : List Change) (entries : List (Entry X))
    → keeps start kept → Fits kept due changes → IsTurn kept.history entries
    → may_release start due changes entries → keeps start (after_release changes entries kept))
    (moves : (start : Start) (kept : Kept X) (move : NumberMove) → keeps start kept → MayMove kept move
    → keeps start (moved move kept)) where
  -- the pages still to be released: the first of them is the group's, or all are pending
  record ReadyToLeave (h version : ℕ) (rest : List ℕ) (said : Option X) (qs : List ℕ) (u : View X) : Type 0 where
    live : u.live ≡ true
    number : 0 < length u.used
    ends : qs ≡ [] → IsFit u
    each : (q : ℕ) → has q qs ≡ true → IsReleasable version u q
    among : (q : ℕ) → has q qs ≡ true → q ≢ h → has q rest ≡ true
    first : has h qs ≡ true → IsFirst may_release h rest said u
    order : has h qs ≡ true → (more : List ℕ) × (qs ≡ h ∷ more)
    pending : has h qs ≡ false → (q : ℕ) → has q qs ≡ true → has q u.pending ≡ true

  module _ (start : Origin) (tells : Bool) (h version : ℕ) (rest : List ℕ) (said : Option X) (below : version < MAX_VERSION) (id : ℕ)
      (s : Table (Option B) (View X)) (r : Ruled stored keeps tied start tells s) (u : View X) (there : get_elem? s.views id ≡ some u) where
    -- page q is released, and those behind it are still to be
    abbrev LeavesAt : ℕ → List ℕ → Type 0
    LeavesAt q qs = (w : View X) × Ruled stored keeps tied start tells
        (became stored keeps tied start tells s (slice_set s.words q (version + 1)) id w)
        × ReleaseTellsOf keeps tells h version rest said q u w × ReadyToLeave h version rest said qs w

    other : (q p : ℕ) (qs : List ℕ) → has q qs ≡ false → has p qs ≡ true → p ≢ q
    other q p qs none is e = false≢true (sym none ∙ subst (λ j. has j qs ≡ true) e is)

    first-step : (qs : List ℕ) → has h qs ≡ false → h < start.pages → ReadyToLeave h version rest said (h ∷ qs) u
        → LeavesAt h qs
    first-step qs none low k =
        let first : IsFirst may_release h rest said u = k.first (has-head h qs) in
        let own : IsReleasable version u h = k.each h (has-head h qs) in
        let m = release-plays stored keeps tied may_release law moves start tells s r id u there k.live k.number h version low below rest said
        (record {
          owns = own.owns;
          resident = own.resident;
          owned = own.owned;
          told = own.told;
          home = own.home;
          at = own.at;
          group = inl first;
        }) in
        let t : ReleaseTold h version rest said u m.0 = m.2.0 in
        let fits : IsFit m.0 = fit t.brings k.live k.number in (
          m.0,
          m.1,
          subst (λ b. ReleaseTells keeps tells h (ReleaseTold h version (if b then rest else []) (if b then said else None)) u m.0)
              (sym (eq-eqb h h refl)) m.2,
          record {
            live = fits.live;
            number = fits.number;
            ends = λ _. fits;
            each = λ p is. releasable-stays h p rest said t (other h p qs none is) (k.each p (has-tail h qs p is));
            among = λ p is. k.among p (has-tail h qs p is);
            first = λ again. absurd (false≢true (sym none ∙ again));
            order = λ again. absurd (false≢true (sym none ∙ again));
            pending = λ _ p is. pending-made h rest said t first.members.0.free p (k.among p (has-tail h qs p is) (other h p qs none is));
          },
        )

    later-step : (q : ℕ) → q ≢ h → (qs : List ℕ) → has q qs ≡ false → q < start.pages
        → ReadyToLeave h version rest said (q ∷ qs) u
        → LeavesAt q qs
    later-step q ne qs none low k =
        let gone : has h (q ∷ qs) ≡ false = ⊎_elim
        (λ is. let first = k.order is in absurd (ne (ap (λ l. slice_index l 0) first.1)))
        (λ out. out)
        (cases_Bool (has h (q ∷ qs))) in
        let there' : has q u.pending ≡ true = k.pending gone q (has-head q qs) in
        let own : IsReleasable version u q = k.each q (has-head q qs) in
        let m = release-plays stored keeps tied may_release law moves start tells s r id u there k.live k.number q version low below [] None
        (record {
          owns = own.owns;
          resident = own.resident;
          owned = own.owned;
          told = own.told;
          home = own.home;
          at = own.at;
          group = inr (record { pending = there'; alone = refl; silent = refl });
        }) in
        let t : ReleaseTold q version [] None u m.0 = m.2.0 in
        let fits : IsFit m.0 = fit t.brings k.live k.number in (
          m.0,
          m.1,
          subst (λ b. ReleaseTells keeps tells q (ReleaseTold q version (if b then rest else []) (if b then said else None)) u m.0)
              (sym (ne_eqb q h ne)) m.2,
          record {
            live = fits.live;
            number = fits.number;
            ends = λ _. fits;
            each = λ p is. releasable-stays q p [] None t (other q p qs none is) (k.each p (has-tail q qs p is));
            among = λ p is. k.among p (has-tail q qs p is);
            first = λ again. absurd (false≢true (sym gone ∙ has-tail q qs h again));
            order = λ again. absurd (false≢true (sym gone ∙ has-tail q qs h again));
            pending = λ _ p is. pending-left q p t (other q p qs none is) there' (k.pending gone p (has-tail q qs p is));
          },
        )

    either-step : (q : ℕ) (qs : List ℕ) → has q qs ≡ false → q < start.pages
        → ReadyToLeave h version rest said (q ∷ qs) u → LeavesAt q qs
    either-step q qs none low k =
        ⊎_elim
        (λ here. subst (λ j. has j qs ≡ false → j < start.pages → ReadyToLeave h version rest said (j ∷ qs) u → LeavesAt j qs) (sym here)
        (first-step qs) none low k)
        (λ ne. later-step q ne qs none low k)
        (cases_eq q h)

  pub release-over : (shape : TableShape) (tells : Bool) (slots id : ℕ) (v : View X) (h version : ℕ) (rest : List ℕ) (said : Option X)
      → v.live ≡ true → 0 < length v.used → h < shape.pages → version < MAX_VERSION
      → MayGiveUpAll may_release (group_of shape.began.origin.groups h) h version rest said v
      → head_in shape.began.origin.groups h ≡ h
      → AllowsStep (Stands stored keeps tied shape tells) slots id v h (λ _. version + 1)
      (told_of shape tells (InTurn (λ q _. ReleaseTellsOf keeps tells h version rest said q) (group_of shape.began.origin.groups h)))
  release-over shape tells slots id v h version rest said live number l below may own =
      over-allows stored keeps tied shape tells slots id v h (λ _. version + 1) (λ q _. ReleaseTellsOf keeps tells h version rest said q)
      (ReadyToLeave h version rest said) live l own
      (λ fits. let first = group-first shape.pages h shape.began.origin.groups fits in record {
        live = live;
        number = number;
        ends = λ none. absurd (false≢true (ap (has h) (sym none ∙ first.1) ∙ has-head h first.0));
        each = may.each;
        among = may.among;
        first = λ _. may.first;
        order = λ _. first;
        pending = λ none. absurd (false≢true (sym none ∙ ap (has h) first.1 ∙ has-head h first.0));
      })
      (λ w k. k.ends refl)
      (λ start shaped q qs low under s u r there none _ _ k.
      either-step start tells h version rest said below id s r u there q qs none low k)

  -- as Evicted each of them gives back the words that it had
  pub release_evicted-over : (shape : TableShape) (tells : Bool) (slots id : ℕ) (v : View X) (h version : ℕ)
      → v.live ≡ true
      → 0 < length v.used → h < shape.pages → version < MAX_VERSION
      → ((q : ℕ) → has q (group_of shape.began.origin.groups h) ≡ true → MayEvict v q version)
      → head_in shape.began.origin.groups h ≡ h
      → AllowsStep (Stands stored keeps tied shape tells) slots id v h (λ _. word_of EVICTED (version + 1))
      (told_of shape tells (InTurn (λ q _. ReleaseTells keeps tells q (EvictTold q version)) (group_of shape.began.origin.groups h)))
  release_evicted-over shape tells slots id v h version live number l below may own =
      over-each stored keeps tied shape tells slots id v h (λ _. word_of EVICTED (version + 1))
      (λ q _. ReleaseTells keeps tells q (EvictTold q version)) (λ q u. MayEvict u q version) live number l own may
      (λ q n u w live has t. fit t.0.brings live has)
      (λ q n p u w t ne k. evictable-stays q p t.0 ne k)
      (λ start _ q low s u r there live has may _.
      release_evicted-plays stored keeps tied may_release law moves start tells s r id u there live has q version low below may)
