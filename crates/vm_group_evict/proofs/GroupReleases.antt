-- A group that is in no frame is released as evicted, page behind page with the words that each had.
use Rattle.std.proofs.Common.{Bool, false}
use Rattle.std.proofs.lemmas.Bool.{false≢true}
use Rattle.vm_event.specs.Prelude.{no_seat, version_of}
use Rattle.vm_evict.specs.Evictions.{HasReleased}
use Rattle.vm_evict.specs.Stages.{owning_seat}
use Rattle.vm_group_evict.proofs.LeavingPages.{leaves-by}
use Rattle.vm_group_evict.proofs.Prelude.{[], ap, append-none, append_assoc, draft_of, has, inl, IsLocking, IsUnder}
use Rattle.vm_group_evict.proofs.Prelude.{last_of}
use Rattle.vm_group_evict.proofs.Prelude.{LeavesOthers, LeavesOwn, List, Origin, refl, Release, seat_of, Some}
use Rattle.vm_group_evict.proofs.Prelude.{StartsWith}
use Rattle.vm_group_evict.proofs.Prelude.{starts-then, subst, sym, true, View, ℕ, ◌++◌, ◌+◌, ◌∙◌, ◌∷◌, ◌≡◌, ◌≢◌}
use Rattle.vm_group_evict.specs.Locks.{evicted_at, evictions, IsLeftEvicted}
use Rattle.vm_group_guard.proofs.{Pages.numbers-apart, Pages.under, Turns.made-at}
use Rattle.vm_group_evict.specs.Leaving.{LeavesGroup}
use Rattle.vm_owner.specs.Kept.{Kept, Start}
use Rattle.vm_owner.specs.Numbers.{AreApart}
use Rattle.vm_rule.specs.Prelude.{EvictTold, last_in, numbers, Seat}
use Rattle.vm_step.proofs.Asides.{alone-self, alone-then}
use Rattle.vm_step.proofs.Numbers.{numbers-has}
use Rattle.vm_step.proofs.Over.{has-head, has-tail}
use Rattle.vm_step.proofs.steps.Leaving.{others-none, others-then, own-self, own-then}
use Rattle.vm_step.proofs.steps.Release.{evict-alone, evict-others, evict-seat, evict-silent}
use Rattle.vm_step.specs.{Over.InTurn, steps.Release.ReleaseTells}
use Rattle.vm_step.specs.Prelude.{RunsAlone, StaysAlone}

module _ {X : Type 0} (keeps : Start → Kept X → Type 0) (tells : Bool) (version : ℕ) where
  abbrev pub Leaves : ℕ → ℕ → View X → View X → Type 0
  Leaves q n = ReleaseTells keeps tells q (EvictTold q version)

  -- each page's step stands in the log, and its release is of its draft
  evicted-others : (touched : ℕ → Type 0) (n : ℕ) (qs : List ℕ) → ((q : ℕ) → has q qs ≡ true → touched q) →
      (v w : View X)
      → InTurn Leaves qs n v w → LeavesOthers touched (evictions version qs) (evicted_at version v qs) v w
  evicted-others touched n [] among v w told = subst (LeavesOthers touched [] [] v) (sym told) (others-none v)
  evicted-others touched n (q ∷ qs) among v w told =
      let same : told.0.drafts ≡ v.drafts = ap (λ (y : View X). y.drafts) told.1.0.brings.view in
      let rest = evicted-others touched n qs (λ p k. among p (has-tail q qs p k)) told.0 w told.2 in
      let moved : evicted_at version told.0 qs ≡ evicted_at version v qs =
      (λ i. evicted_at version (record v { drafts = same i }) qs) in
      others-then (evict-others told.1.0 touched (among q (has-head q qs)))
      (subst (λ rs. LeavesOthers touched (evictions version qs) rs told.0 w) moved rest)

  -- nothing is said, where none of the pages is the next one
  evicted-own : (n : ℕ) (qs : List ℕ) (v w : View X) → InTurn Leaves qs n v w
      → ((q : ℕ) → has q qs ≡ true → v.next ≢ Some q) → LeavesOwn v w
  evicted-own n [] v w told next = subst (LeavesOwn v) (sym told) (own-self v)
  evicted-own n (q ∷ qs) v w told next =
      let one = evict-silent told.1.0 (next q (has-head q qs)) in
      own-then one (evicted-own n qs told.0 w told.2 (λ p k e. next p (has-tail q qs p k) (sym one.group.2 ∙ e)))

  -- a pass that is alone finds the last words as they were
  evicted-alone : (n : ℕ) (qs : List ℕ) (v w : View X) → InTurn Leaves qs n v w
      → ((q : ℕ) → has q qs ≡ true → (seat_of v q ≡ owning_seat) × (draft_of v q ≡ (last_of v q).words))
      → AreApart qs → StaysAlone v w
  evicted-alone n [] v w told held apart = subst (StaysAlone v) (sym told) (alone-self v)
  evicted-alone n (q ∷ qs) v w told held apart =
      let e = told.1.0 in
      let f = evict-others e (λ i. i ≡ q) refl in
      let ne = λ (p : ℕ) (k : has p qs ≡ true) (s : p ≡ q). false≢true (sym apart.0 ∙ subst
      (λ j. has j qs ≡ true) s k) in
      let kept : (p : ℕ) → has p qs ≡ true
      → (seat_of told.0 p ≡ owning_seat) × (draft_of told.0 p ≡ (last_of told.0 p).words) = λ p k.
      let g = held p (has-tail q qs p k) in
      let locking : IsLocking (seat_of v p) = inl (ap (λ (s : Seat). s.exclusive) g.0) in (
        f.seats p (ne p k) ∙ g.0,
        f.drafts p (ne p k) ∙ g.1 ∙ ap (λ y. y.words) (sym (f.last p (ne p k) locking)),
      ) in
      alone-then v told.0 w f.parts (evict-alone e (held q (has-head q qs)).1)
      (evicted-alone n qs told.0 w told.2 kept apart.1)

  -- ---- one page

  module _ (word : ℕ) (is : version_of word ≡ version) (v : View X) where
    -- before its own step
    record Holds (p : ℕ) (u : View X) : Type 0 where
      pub seat : seat_of u p ≡ owning_seat
      pub draft : draft_of u p ≡ (last_of u p).words
      pub at : (last_of u p).version ≡ version
      pub start : u.start ≡ v.start
      pub since : StartsWith u.releases v.releases

    released-more : (p : ℕ) (u x : View X) → StartsWith x.releases u.releases → HasReleased p word v u
        → HasReleased p word v x
    released-more p u x more r = record {
      words = r.words;
      before = r.before;
      after = r.after ++ more.0;
      releases = more.1 ∙ ap (λ (l : List Release). l ++ more.0) r.releases
          ∙ append_assoc ((v.releases ++ r.before) ++ record { page = p; version = version_of word + 1; words = r.words } ∷ []) r.after more.0;
      same = r.same;
    }

    released-now : (p : ℕ) (u x : View X) → Holds p u → EvictTold p version u x → HasReleased p word v x
    released-now p u x g e =
        let item : ℕ → List ℕ → Release = λ m k. record { page = p; version = m + 1; words = k } in
        let since : List Release = g.since.0 ++ e.brings.between in
        let known : u.releases ++ e.brings.between ≡ v.releases ++ since =
        ap (λ (r : List Release). r ++ e.brings.between) g.since.1
        ∙ append_assoc v.releases g.since.0 e.brings.between in
        let locking : IsLocking (seat_of u p) = inl (ap (λ (s : Seat). s.exclusive) g.seat) in
        let now : x.releases ≡ ((v.releases ++ since) ++ item (version_of word) (last_of u p).words ∷ []) ++ [] =
        ap (λ (y : View X). y.releases) e.brings.view
        ∙ ap (λ (r : List Release). r ++ item version (draft_of u p) ∷ []) known
        ∙ (λ i. (v.releases ++ since) ++ item (sym is i) (g.draft i) ∷ [])
        ∙ sym (append-none ((v.releases ++ since) ++ item (version_of word) (last_of u p).words ∷ [])) in
        record {
          words = (last_of u p).words;
          before = since;
          after = [];
          releases = now;
          same = ap (λ (r : List Release). last_in v.start r p) (sym known)
              ∙ ap (λ (o : Origin). last_in o (u.releases ++ e.brings.between) p) (sym g.start)
              ∙ e.brings.kept p locking
              ∙ (λ i. record { version = (g.at ∙ sym is) i; words = (last_of u p).words });
        }

    released-at : (h size n p : ℕ) (w : View X) → InTurn Leaves (numbers h size) n v w → IsUnder h size p → Holds p v
        → HasReleased p word v w
    released-at h size n p w told at start =
        made-at Leaves n p (Holds p) (HasReleased p word v)
        (λ q u x l ne g. let f = evict-others l.0 (λ i. i ≡ q) refl in
        let locking : IsLocking (seat_of u p) = inl (ap (λ (s : Seat). s.exclusive) g.seat) in
        let last = f.last p ne locking in
        record {
          seat = f.seats p ne ∙ g.seat;
          draft = f.drafts p ne ∙ g.draft ∙ ap (λ y. y.words) (sym last);
          at = ap (λ y. y.version) last ∙ g.at;
          start = f.start ∙ g.start;
          since = starts-then v.releases u.releases x.releases g.since f.releases;
        })
        (λ q u x l ne r. released-more p u x (evict-others l.0 (λ i. i ≡ q) refl).releases r)
        (λ u x g l. released-now p u x g l.0)
        (numbers h size) (numbers-apart h size) (numbers-has size h p at.0 at.1) v w told start

    -- ---- the group

    pub left-evicted : (h size n : ℕ) (w : View X) → InTurn Leaves (numbers h size) n v w
        → ((q : ℕ) → IsUnder h size q → seat_of v q ≡ owning_seat)
        → ((q : ℕ) → IsUnder h size q → draft_of v q ≡ (last_of v q).words)
        → ((q : ℕ) → IsUnder h size q → (last_of v q).version ≡ version)
        → ((q : ℕ) → IsUnder h size q → v.next ≢ Some q) → IsLeftEvicted h size word v w
    left-evicted h size n w told seats drafts at next =
        let qs : List ℕ = numbers h size in
        let others = evicted-others (IsUnder h size) n qs (under h size) v w told in
        let own = evicted-own n qs v w told (λ q k. next q (under h size q k)) in
        let steps : evictions version qs ≡ evictions (version_of word) qs = (λ i. evictions (sym is i) qs) in
        record {
          leaves = subst (λ done. LeavesGroup h size done v w) steps (leaves-by h size _ v w others own);
          runs = subst (λ m. RunsAlone (evictions m qs) (evicted_at m v qs) v w) (sym is) others.runs;
          seats = λ p u. made-at Leaves n p (λ x. seat_of x p ≡ owning_seat) (λ x. seat_of x p ≡ no_seat)
              (λ q x y l ne g. (evict-others l.0 (λ i. i ≡ q) refl).seats p ne ∙ g)
              (λ q x y l ne g. (evict-others l.0 (λ i. i ≡ q) refl).seats p ne ∙ g)
              (λ x y g l. evict-seat l.0 ∙ ap (λ (s : Seat). record s { exclusive = false }) g)
              qs (numbers-apart h size) (numbers-has size h p u.0 u.1) v w told (seats p u);
          released = λ p u. released-at h size n p w told u (record {
            seat = seats p u;
            draft = drafts p u;
            at = at p u;
            start = refl;
            since = ([], sym (append-none v.releases));
          });
          alone = evicted-alone n qs v w told (λ q k. (seats q (under h size q k), drafts q (under h size q k)))
              (numbers-apart h size);
          frames = others.keeps;
          out = others.out;
        }
