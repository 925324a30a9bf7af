-- What the calls on a page that is locked already leave of the view: a word read, a word set, a share given up, a
-- release, and one to a share.
use Rattle.std.proofs.Common.{get_or-set_other, get_or-set_same, length-set}
use Rattle.vm_guard.proofs.Prelude.{[], alone-self, alone-then, ap, arith, Bool, Change, cond-false, Did, did_change}
use Rattle.vm_guard.proofs.Prelude.{did_store, dirty-held, dirty-others, dirty-works, dirty_in, dirty_steps}
use Rattle.vm_guard.proofs.Prelude.{DirtyTold, downgrade-last, downgrade-others, downgrade-seat, DowngradeTold}
use Rattle.vm_guard.proofs.Prelude.{draft_of, Drafts, entries_of, Entry, false, has, HasWritten, Held, held_at}
use Rattle.vm_guard.proofs.Prelude.{holds-still, holds-then, HoldsPage, index_of, inl, inr, IsAlone, IsClaimed}
use Rattle.vm_guard.proofs.Prelude.{IsDirtied, IsDowngraded, IsFirst, IsHolding, IsNotOut, IsReleased, IsSet}
use Rattle.vm_guard.proofs.Prelude.{IsSharing, IsSome, IsUnlockedWord, IsUnshared, IsWhole, known_word, KnowsAsBefore}
use Rattle.vm_guard.proofs.Prelude.{KnowsStates, last_in, last_of, LeavesOwn, length, List, Mapping, MAX_VERSION}
use Rattle.vm_guard.proofs.Prelude.{MayDowngrade, MayGiveUp, no_held, None, Option, Origin, own-then, PassMayRelease}
use Rattle.vm_guard.proofs.Prelude.{put_at, reads-then, refl, Release, release-last, release-loads, release-others}
use Rattle.vm_guard.proofs.Prelude.{release-own, WordPlace, release-seat, releases-else, ReleaseTold, rules}
use Rattle.vm_guard.proofs.Prelude.{RunsAlone, Seat, seat_of, slice_index, slice_set, Some, Start, state_of}
use Rattle.vm_guard.proofs.Prelude.{still-alone, store-draft, store-held, store-last, store-loads, store-others}
use Rattle.vm_guard.proofs.Prelude.{store-own, store-seat, StoresTold, StoreTold, subst, sym, trans_word, true}
use Rattle.vm_guard.proofs.Prelude.{unshare-knows, unshare-loads, unshare-others, unshare-own, unshare-seat}
use Rattle.vm_guard.proofs.Prelude.{UnshareTold, Version, version_of, View, without, ℕ, ◌*◌, ◌++◌, ◌+◌, ◌-◌, ◌<◌, ◌^◌}
use Rattle.vm_guard.proofs.Prelude.{◌∙◌, ◌∷◌, ◌≡◌, ◌≢◌, ◌≤◌}
use Rattle.vm_rule.specs.Releases.{freed_by, numbers_left}
use Rattle.vm_step.proofs.{Asides.numbers-self}
use Rattle.vm_guard.proofs.QuietSteps.{alone-of, elsewhere-of, elsewhere-then, quiet-elsewhere, quiet-none}
use Rattle.vm_guard.proofs.Sure.{free-after, state-inside}

-- ---- each call

module _ {X : Type 0} where
  pub gives-up : (p found : ℕ) (v w : View X) → 1 ≤ (seat_of v p).shares → UnshareTold p found v w → IsUnshared p v w
  gives-up p found v w shares t =
      let f = unshare-others t (λ q. q ≡ p) refl in
      let table = λ (a : IsAlone v). let steps = f.runs.words a.0 a.1 in
      steps.1 ∙ ap (λ (n : ℕ). slice_set v.snapshot.words p (n - 2 ^ 56)) steps.0 in
      let known = λ (a : IsAlone v).
      let steps = f.runs.words a.0 a.1 in
      ap (λ (l : List ℕ). slice_index l p) steps.1
      ∙ get_or-set_same v.snapshot.words p (found - 2 ^ 56) 0
      (state-inside p v.snapshot.words (subst (λ (n : ℕ). 1 ≤ state_of n) steps.0 t.shared))
      ∙ ap (λ (n : ℕ). n - 2 ^ 56) steps.0 in
      let steps : (n : ℕ) × (did_change (WordPlace.State p) found (found - 2 ^ 56) ∷ [] ≡ did_change
      (WordPlace.State p) n (n - 2 ^ 56) ∷ []) = (found, refl) in
      search (
        rules,
        elsewhere-of f,
        unshare-own t,
        alone-of f,
        unshare-seat t,
        unshare-loads t,
        unshare-knows t p (inr shares),
        steps,
        table,
        known,
        t.brings.view,
      )

  -- ---- a word of the draft

  pub drafts-of : (p f version : ℕ) (v : View X) → IsHolding p f version true v → Drafts v p f
  drafts-of p f version v h = record { owns = h.owns; stands = h.stands; free = h.free }

  -- a page that is held stays so, dirty or not, where it stays locked in its frame with the words that it had or as many others
  held-still : {p f version : ℕ} {dirty now : Bool} {v w : View X} → IsHolding p f version dirty v → w.start ≡ v.start
      → (seat_of w p).exclusive ≡ (seat_of v p).exclusive → (held_at w p).mapping ≡ Some (record {
        frame = f;
        dirty = now;
      })
      → (held_at w p).owner ≡ (held_at v p).owner → (held_at w p).fault ≡ (held_at v p).fault
      → (held_at w p).block.count ≡ (held_at v p).block.count → last_of w p ≡ last_of v p
      → length (draft_of w p) ≡ length (draft_of v p) → w.pending ≡ v.pending → IsHolding p f version now w
  held-still {p = p} {f = f} h start owns stands owner fault count last size pending =
      search (
        rules,
        ap,
        subst (λ (o : Origin). p < o.pages) (sym start) h.page,
        subst (λ (o : Origin). f < o.frames)
            (sym start) h.frame_is,
        size ∙ h.size ∙ ap (λ (o : Origin). o.size) (sym start),
      )

  -- so where what is known of it under its lock does
  pub still-held : {p f version : ℕ} {dirty : Bool} {v w : View X} → IsHolding p f version dirty v → w.start ≡ v.start
      → (seat_of w p).exclusive ≡ (seat_of v p).exclusive → KnowsAsBefore v w p → w.pending ≡ v.pending
      → IsHolding p f version dirty w
  still-held h start owns k pending =
      held-still h start owns (ap (λ (y : Held). y.mapping) k.held ∙ h.stands) (ap (λ (y : Held). y.owner) k.held)
      (ap (λ (y : Held). y.fault) k.held) (ap (λ (y : Held). y.block.count) k.held) k.last
      (ap (λ (l : List ℕ). length l) k.draft) pending

  -- and where it was made dirty
  holding-on : (p f version : ℕ) (dirty : Bool) (v w : View X) → IsHolding p f version dirty v → w.start ≡ v.start
      → HoldsPage v w p → put_at no_held w.held p ≡ record (put_at no_held v.held p) { mapping = Some (dirty_in f) }
      → last_of w p ≡ last_of v p → length (draft_of w p) ≡ length (draft_of v p) → w.pending ≡ v.pending → IsHolding p f version true w
  holding-on p f version dirty v w h start holds held last size pending =
      held-still h start holds.exclusive (ap (λ (y : Held). y.mapping) held) (ap (λ (y : Held). y.owner) held)
      (ap (λ (y : Held). y.fault) held) (ap (λ (y : Held). y.block.count) held) last size pending

  -- a page that is dirty already is left so
  pub was-dirty : (p f version : ℕ) (dirty : Bool) (v : View X) → IsHolding p f version dirty v → dirty ≡ true → IsDirtied p f dirty v v
  was-dirty p f version dirty v h e =
      let held : put_at no_held v.held p ≡ record (put_at no_held v.held p) {
        mapping = Some (dirty_in f);
      } = (λ i. record (put_at no_held v.held p) {
        mapping = (h.stands ∙ ap (λ (b : Bool). Some (record { frame = f; dirty = b })) e) i;
      }) in
      search (rules, sym (ap (dirty_steps p f) e), quiet-elsewhere p [] v v (quiet-none p v), numbers-self v, alone-self v, held)

  -- a store at another place leaves the state word that a pass knows
  stored-else : (at : WordPlace) (x q : ℕ) (v w : View X) → RunsAlone (did_store at x ∷ []) [] v w → IsAlone v
      → q ≢ index_of v.start at → known_word q w ≡ known_word q v
  stored-else at x q v w r a ne = ap (λ (l : List ℕ). slice_index l q) (r.words a.0 a.1).1
      ∙ get_or-set_other v.snapshot.words (index_of v.start at) q x 0 ne

  -- a clean one is made so
  pub dirties : (p f version : ℕ) (dirty : Bool) (v w : View X) → IsHolding p f version dirty v → dirty ≡ false
      → DirtyTold p f v w → IsDirtied p f dirty v w
  dirties p f version dirty v w h e t =
      let k = dirty-works t in
      let others = dirty-others t (λ q. q ≡ p) refl in
      let states : KnowsStates v w = λ a q l. stored-else (WordPlace.Translation p) (trans_word (Some (dirty_in f))) q
      v w k.alone a (λ (e : q ≡ v.start.pages + p). omega (arith, l, e)) in
      let holds : HoldsPage v w p = holds-still p k.seat in
      search (
        rules,
        ap,
        sym (ap (dirty_steps p f) e),
        elsewhere-of others,
        k,
        alone-of others,
        holds,
        dirty-held t,
        k.last (inl h.owns),
        states,
      )

  pub holds-dirty : (p f version : ℕ) (dirty : Bool) (v w : View X) → IsHolding p f version dirty v
      → IsDirtied p f dirty v w → IsHolding p f version true w
  holds-dirty p f version dirty v w h d = holding-on p f version dirty v w h d.elsewhere.steady.start d.holds d.held
      d.last (ap (λ (l : List ℕ). length l) d.draft) d.group.0

  -- a word of a page that was made dirty is set
  pub sets : (p f version : ℕ) (dirty : Bool) (i x : ℕ) (v u w : View X) → IsHolding p f version dirty v
      → IsDirtied p f dirty v u → StoresTold f i x u w → IsSet p f dirty i x v w
  sets p f version dirty i x v u w before d stores =
      let h : IsHolding p f version true u = holds-dirty p f version dirty v u before d in
      let t : StoreTold p f i x u w = stores.page p (drafts-of p f version u h) in
      let did : Did = did_store (WordPlace.Content f i) x in
      let k = store-others t (λ q. q ≡ p) refl in
      let own : LeavesOwn v w = own-then (record {
        mine = d.mine;
        group = d.group;
        start = d.elsewhere.steady.start;
        numbers = d.numbers;
      }) (store-own t) in
      let states : KnowsStates v w = λ a q l.
      let below : q < u.start.pages = subst (λ (o : Origin). q < o.pages) (sym d.elsewhere.steady.start) l in
      stored-else (WordPlace.Content f i) x q u w k.runs (still-alone v u d.elsewhere.steady.parts d.alone.current a)
      (λ (e : q ≡ 3 * u.start.pages + (u.start.size * f + i)). omega (arith, below, e))
      ∙ d.states a q l in
      let elsewhere = elsewhere-then p d.done (did ∷ []) v u w d.elsewhere (elsewhere-of k) in
      let holds = holds-then v u w p d.holds (holds-still p (store-seat t p)) in
      let reads = reads-then v u w p d.reads (record { reading = ap (λ s. s.reading) (store-seat t p); loads = store-loads t p }) in
      search (
        rules,
        ap (λ (l : List Did). l ++ did ∷ []) d.steps,
        elsewhere,
        own,
        alone-then v u w d.elsewhere.steady.parts d.alone (alone-of k),
        holds,
        reads,
        store-held t p,
        store-last t p (inl h.owns),
        store-draft t ∙ ap (λ (l : List ℕ). slice_set l i x) d.draft,
        states,
      )

  pub still-holding : (p f version : ℕ) (dirty : Bool) (i x : ℕ) (v w : View X) → IsHolding p f version dirty v
      → IsSet p f dirty i x v w → IsHolding p f version true w
  still-holding p f version dirty i x v w h s =
      holding-on p f version dirty v w h s.elsewhere.steady.start s.holds s.held s.last
      (ap (λ (l : List ℕ). length l) s.draft ∙ length-set (draft_of v p) i x) s.group.0

  -- ---- a release

  -- a page that is held may be the first of a group of its own
  pub alone-first : {may_release : Start → List ℕ → List Change → List (Entry X) → Type 0} {p f version : ℕ}
      {dirty : Bool} {said : Option X} {v : View X} → IsHolding p f version dirty v
      → (v.start.tells ≡ true → IsClaimed v p) → PassMayRelease may_release p said v
      → IsFirst may_release p [] said v
  alone-first h claimed owner = record {
    members = (record { page = h.page; owns = h.owns; free = h.free; claimed = claimed }, tt);
    apart = (refl, tt);
    few = omega arith;
    owner = owner;
  }

  pub first-may : {may_release : Start → List ℕ → List Change → List (Entry X) → Type 0} {p f version : ℕ}
      {dirty : Bool} {rest : List ℕ} {said : Option X} {v : View X} → IsHolding p f version dirty v → IsNotOut v p
      → IsFirst may_release p rest said v → MayGiveUp may_release p version rest said v
  first-may h home first = record {
    owns = h.owns;
    resident = subst (λ (o : Option Mapping). IsSome o) (sym h.stands) refl;
    owned = h.owned;
    told = h.told;
    home = home;
    at = sym h.at;
    group = inl first;
  }

  pub releases : (p f version : ℕ) (dirty : Bool) (said : Option X) (v w : View X) → IsHolding p f version dirty v
      → ReleaseTold p version [] said v w → IsReleased p version said v w
  releases p f version dirty said v w h t =
      let e = release-others t (λ q. q ≡ p) refl in
      let view = t.brings.view in
      let pending = ap (λ (y : View X). y.pending) view ∙ cond-false (has p v.pending) (without p v.pending) v.pending h.free in
      let numbers : (w.numbers ≡ numbers_left p v) × (w.freed ≡ freed_by v (p ∷ []) ++ v.freed) = (
        ap (λ (y : View X). y.numbers) view,
        ap (λ (y : View X). y.freed) view ∙ cond-false (has p v.pending) v.freed
            (freed_by v (p ∷ []) ++ v.freed) h.free,
      ) in
      let entry : (others : List (Entry X)) × (w.seen ≡ (v.seen ++ others) ++ entries_of v said) =
      (t.brings.others, ap (λ (y : View X). y.seen) view) in
      let last = λ (all : IsWhole v) (k : v.current ≡ true) (q : ℕ) (ne : q ≢ p).
      ap (λ (o : Origin). (last_in o w.releases q).words) e.start
      ∙ ap (λ (rs : List Release). (last_in v.start rs q).words) (e.runs.releases all k)
      ∙ ap (λ (x : Version). x.words) (releases-else v.start v.releases (release-own t ∷ []) q (ne, tt)) in
      let wrote : HasWritten (did_store (WordPlace.State p) (version + 1) ∷ []) (WordPlace.State p) (version + 1) =
      record {
        earlier = [];
        step = did_store (WordPlace.State p) (version + 1);
        later = [];
        cut = refl;
        place = refl;
        wrote = refl;
      } in
      let free = λ (a : IsAlone v).
      let below : version < MAX_VERSION = h.below in
      subst (λ (l : List ℕ). IsUnlockedWord (slice_index l p) × (version_of (slice_index l p) ≤ version + 1)) (sym (e.runs.words a.0 a.1).1)
      (free-after p (version + 1) v.snapshot.words (omega (arith, below))) in
      search (
        rules,
        elsewhere-of e,
        view,
        entry,
        pending,
        numbers,
        release-seat t,
        release-loads t p,
        release-last t,
        last,
        wrote,
        (λ (a : IsAlone v). (e.runs.words a.0 a.1).1),
        free,
      )

-- ---- a release to a share

module _ {X : Type 0} where
  pub may-downgrade : (may_release : Start → List ℕ → List Change → List (Entry X) → Type 0) (p f version : ℕ)
      (dirty : Bool) (v : View X) → IsHolding p f version dirty v
      → IsNotOut v p → (v.start.tells ≡ true → IsClaimed v p) → PassMayRelease may_release p None v → MayDowngrade may_release v p version
  may-downgrade may_release p f version dirty v h home claimed owner =
      let first : IsFirst may_release p [] None v = alone-first h claimed owner in
      search (rules, subst (λ (o : Option _). IsSome o) (sym h.stands) refl, first)

  pub downgrades : (p f version : ℕ) (dirty : Bool) (v w : View X) → IsHolding p f version dirty v
      → DowngradeTold p version v w → IsDowngraded p f version v w
  downgrades p f version dirty v w h t =
      let e = downgrade-others t (λ q. q ≡ p) refl in
      let view = t.brings.view in
      let shares = subst (λ (k : Seat). 1 ≤ k.shares) (sym (downgrade-seat t)) (omega arith) in
      let stands : (m : Mapping) × ((put_at no_held w.held p).mapping ≡ Some m) × (m.frame ≡ f) = (
        record {
          frame = f;
          dirty = dirty;
        },
        ap (λ (y : View X). (put_at no_held y.held p).mapping) view ∙ h.stands,
        refl,
      ) in
      let sharing : IsSharing p f w =
      search (
        rules,
        subst (λ (o : Origin). p < o.pages) (sym e.start) h.page,
        subst (λ (o : Origin). f < o.frames) (sym e.start) h.frame_is,
        shares,
        stands,
      ) in
      search (rules, elsewhere-of e, view, downgrade-seat t, sharing, downgrade-last t, (λ (a : IsAlone v). (e.runs.words a.0 a.1).1))
