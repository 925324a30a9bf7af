-- The releases of a group are their events.
use Rattle.std.proofs.lemmas.Bool.{cases_eq, eq-eqb, false≢true, ne_eqb}
use Rattle.vm_event.specs.declared.event.PageAct.TheVariants as acts
use Rattle.vm_event.specs.declared.event.Seen.TheVariants as sights
unfoldable use Rattle.vm_event.specs.Fn.{upd_over}
use Rattle.vm_event.specs.{Fn.upd, Groups.head_in, Step.acted_over, Step.keeps_number, Step.left, Step.MayLeave}
use Rattle.vm_event.proofs.Groups.{head-below}
use Rattle.vm_owner.specs.Kept.{Change}
use Rattle.vm_page.specs.Pages.{all_zero}
use Rattle.vm_rule.proofs.GroupWords.{group-apart, group-has, group-hasn't}
use Rattle.vm_rule.specs.{declared.view.Origin.Origin, declared.view.View.View, Releases.evicted_view}
use Rattle.vm_rule.specs.{Reading.numbers_held, Releases.numbers_left, Releases.released_view, Spread.group_of}
use Rattle.vm_rule.specs.{Spread.spread_table, Views.Each}
use Rattle.vm_step.proofs.Prelude.{[], ap, arith, fun_ext, suc, at-there, Bool, core_shown, draft_of, Entry, eqb, EVICTED, EvictTold, false}
use Rattle.vm_step.proofs.Prelude.{has, has-without_other, has-without_same, if◌then◌else◌, inl, inr, IsFirst, IsMember}
use Rattle.vm_step.proofs.Prelude.{IsPassOf, Kept, List, MAX_VERSION, no_seat, None, Option, page_at, put, put_at, refl}
use Rattle.vm_step.proofs.Prelude.{Release, ReleaseE, ReleaseTold, Seat, seat_of, slice_set, some, Start, State, Stored}
use Rattle.vm_step.proofs.Prelude.{subst, sym, Table, true, upd-other, upd-same, without, word_of, World, ℕ, ⊎_elim}
use Rattle.vm_step.proofs.Prelude.{◌&&◌, ◌+◌, ◌<◌, ◌==◌, ◌||◌, ◌∙◌, ◌∷◌, ◌≡◌, ◌≢◌}
use Rattle.vm_step.proofs.Releasing.{evicting, giving-up, left-step, number-kept, numbers-for, release-legal, released-state}
use Rattle.vm_step.proofs.Releasing.{released-version, Releasing, seat_left}
use Rattle.vm_step.proofs.Releasing.Way.{Evicts, Unlocks}
use Rattle.vm_step.specs.Over.{InTurn}
use Rattle.vm_step.specs.Prelude.{table_after}
use Rattle.vm_step.specs.steps.Release.{MayEvict, MayGiveUp, MayGiveUpAll}
use Rattle.vm_group_step.proofs.GroupEvents.{acts-at, ActsAt, all, are-events, group-acts, group-numbers, Moves, moves-all, MovesAll}
use Rattle.vm_group_step.proofs.GroupEvents.{moves-from, moves-put}
use Rattle.vm_group_step.specs.Events.{core_over, owner_over}
use Rattle.vm_group_step.specs.EventKinds.{ReleaseGroupEvictedIsItsEvent, ReleaseGroupIsItsEvent}

each-in : (P : ℕ → Type 0) (l : List ℕ) → Each P l → (q : ℕ) → has q l ≡ true → P q
each-in P [] all q is = absurd (false≢true is)
each-in P (p ∷ ps) all q is =
    ⊎_elim (λ e. subst P (sym e) all.0)
    (λ ne. each-in P ps all.1 q (sym (ap (λ b. b || has q ps) (ne_eqb q p ne)) ∙ is))
    (cases_eq q p)

-- who holds a number, where it was put aside or not
left-numbers : (b : Bool) (q p : ℕ) (l : List ℕ)
    → has p (if b then l else without q l) ≡ (if p == q then b && has p l else has p l)
left-numbers true q p l = ⊎_elim (λ e. rw (eq-eqb p q e) refl) (λ ne. rw (ne_eqb p q ne) refl) (cases_eq p q)
left-numbers false q p l =
    ⊎_elim (λ e. rw (eq-eqb p q e) (ap (λ n. has n (without q l)) e ∙ has-without_same q l))
    (λ ne. rw (ne_eqb p q ne) (has-without_other q p l ne))
    (cases_eq p q)

kept-over : (heads : ℕ → ℕ) (h : ℕ) (f : ℕ → Bool) (keep keep' : ℕ → Bool) → ((q : ℕ) → heads q ≡ h → keep q ≡ keep' q)
    → upd_over heads h f (λ q. keep q && f q) ≡ upd_over heads h f (λ q. keep' q && f q)
unfolding upd_over
kept-over heads h f keep keep' same =
    fun_ext (λ q. ⊎_elim (λ e. rw (eq-eqb (heads q) h e) (ap (λ b. b && f q) (same q e))) (λ ne. rw (ne_eqb (heads q) h ne) refl)
    (cases_eq (heads q) h))

pub owner-past : (groups : List (ℕ × ℕ)) (q : ℕ) → owner_over groups (q + 1) ≡ head_in groups q + 1
owner-past groups q =
    let past : q + 1 ≡ suc q = omega arith in
    let next : suc (head_in groups q) ≡ head_in groups q + 1 = omega arith in
    ap (owner_over groups) past ∙ next

abbrev gives-up : Seat → Seat
gives-up y = record y { exclusive = false }

module _ {X : Type 0} where
  -- whether the pass keeps the page's number when it releases it
  abbrev keeps-it : View X → ℕ → Bool
  keeps-it v q = v.start.tells && all_zero (draft_of v q)

  -- the drafts are these, and the start
  abbrev HasDrafts : View X → View X → Type 0
  HasDrafts v u = ((q : ℕ) → draft_of u q ≡ draft_of v q) × (u.start ≡ v.start)

  released-moves : (v : View X) (q version : ℕ) (rest : List ℕ) (said : Option X) (u w : View X) → HasDrafts v u
      → ReleaseTold q version rest said u w → Moves (keeps-it v) gives-up q u w × HasDrafts v w
  released-moves v q version rest said u w stays t = (
    moves-from (keeps-it v) gives-up q t.brings (record {
      here = upd-same (put_at no_seat u.seats) q (gives-up (seat_of u q));
      there = λ p ne. upd-other (put_at no_seat u.seats) q (gives-up (seat_of u q)) p ne;
      out = refl;
      frames = refl;
      numbers = λ p. left-numbers (keeps-it u q) q p u.numbers
          ∙ (λ i. if p == q then ((stays.1 i).tells && all_zero (stays.0 q i)) && has p u.numbers else has p u.numbers);
    }),
    (
      λ p. ap (λ (y : View X). draft_of y p) t.brings.view ∙ stays.0 p,
      ap (λ (y : View X). y.start) t.brings.view ∙ stays.1,
    ),
  )

-- the layer above would let any change be made: what the machine asks is not its
abbrev any-release : {X : Type 0} → Start → List ℕ → List Change → List (Entry X) → Type 0
any-release start owed changes entries = Unit {0}

module _ {X B : Type 0} (stored : B → Stored) (keeps : Start → Kept X → Type 0)
    (tied : Start → ℕ → List ℕ → ℕ → List ℕ → Type 0) (tells : Bool) where
  alone : (may_release : Start → List ℕ → List Change → List (Entry X) → Type 0) (qs : List ℕ) (h version : ℕ)
      (rest : List ℕ) (said : Option X) (v : View X) → MayGiveUpAll may_release qs h version rest said v → (q : ℕ)
      → has q qs ≡ true → MayGiveUp any-release q version [] None v
  alone may_release qs h version rest said v may q is =
      let k = may.each q is in
      let member : IsMember v q =
      ⊎_elim (λ e. subst (IsMember v) (sym e) may.first.members.0)
      (λ ne. each-in (IsMember v) rest may.first.members.1 q (may.among q is ne))
      (cases_eq q h) in
      record {
        owns = k.owns;
        resident = k.resident;
        owned = k.owned;
        told = k.told;
        home = k.home;
        at = k.at;
        group = inl (record { members = (member, tt); apart = (refl, tt); few = omega arith; owner = λ t. inr tt });
      }

  module _ (start : Origin) (s : Table (Option B) (View X)) (id q version : ℕ) (v : View X)
      (pass : IsPassOf stored start keeps tied tells s id v) (low : q < start.pages) (below : version < MAX_VERSION)
      (may : MayGiveUp any-release q version [] None v) where
    abbrev rel : Releasing stored keeps tied start tells any-release
    rel = giving-up s pass.rule id v pass.there pass.live q version [] None low below may

    abbrev later : View X
    later = record v { seats = put q (seat_left Unlocks (seat_of v q)) v.seats; numbers = numbers_left q v }

    -- the core after the page's release
    released-core : core_shown stored start (table_after s (slice_set s.words q (version + 1)) id later)
        ≡ left (core_shown stored start s) id q acts.Release
    released-core =
        ap (λ (k : World). k.core)
        (left-step stored start Unlocks s [] (λ _. []) id v later q (version + 1) pass.rule.wide.0 low pass.there refl refl
        (numbers-for Unlocks (core_shown stored start s) q v later (number-kept rel) refl) refl refl (released-state rel)
        (released-version rel))

    may-leave : MayLeave (core_shown stored start s) id q acts.Release
    may-leave = release-legal rel

    release-acts : ActsAt stored start keeps tied tells s id q (version + 1) acts.Release gives-up v
    release-acts =
        acts-at stored start keeps tied tells s id q (version + 1) acts.Release (keeps-it v) gives-up v later
        (record {
          here = upd-same (put_at no_seat v.seats) q (gives-up (seat_of v q));
          there = λ p ne. upd-other (put_at no_seat v.seats) q (gives-up (seat_of v q)) p ne;
          out = refl;
          frames = refl;
          numbers = λ p. left-numbers (keeps-it v q) q p v.numbers;
        })
        may-leave.may
        (ap (λ (y : State). y.pages) released-core)

  pub release_group-event : (may_release : Start → List ℕ → List Change → List (Entry X) → Type 0)
      → ReleaseGroupIsItsEvent stored keeps tied tells may_release
  release_group-event may_release start s id h version rest said v w may inside own below give told =
      let s' : Table (Option B) (View X) = spread_table start s in
      let c : State = core_shown stored start s' in
      let qs : List ℕ = group_of start.groups h in
      let among : (q : ℕ) → head_in start.groups q ≡ h → has q qs ≡ true = group-has start.pages h start.groups may.fit own in
      let head-of : (q : ℕ) → has q qs ≡ true → head_in start.groups q ≡ h =
      λ q is. ⊎_elim (λ e. e)
      (λ ne. absurd (false≢true (sym (group-hasn't start.pages h start.groups may.fit own q ne) ∙ is)))
      (cases_eq (head_in start.groups q) h) in
      let low : (q : ℕ) → has q qs ≡ true → q < start.pages =
      λ q is. head-below start.pages start.groups may.fit q (subst (λ k. k < start.pages) (sym (head-of q is)) inside) in
      let leave : (q : ℕ) → has q qs ≡ true → MayGiveUp any-release q version [] None v =
      alone may_release qs h version rest said v give in
      let each : (q : ℕ) → has q qs ≡ true → ActsAt stored start keeps tied tells s' id q (version + 1) acts.Release gives-up v =
      λ q is. release-acts start s' id q version v may.pass (low q is) below (leave q is) in
      let moved : MovesAll (keeps-it v) gives-up qs v w =
      moves-all (λ q _. ReleaseTold q version (if q == h then rest else []) (if q == h then said else None)) (version + 1)
      (keeps-it v) gives-up (HasDrafts v)
      (λ q u y stays t. released-moves v q version (if q == h then rest else []) (if q == h then said else None) u y stays t)
      qs (group-apart start.groups h) v w (λ q. refl, refl) told in
      let k = group-acts stored start keeps tied tells s id h (version + 1) acts.Release (keeps-it v) gives-up v w may own inside moved each in
      let kept : (q : ℕ) → has q qs ≡ true → keeps_number c q ≡ keeps-it v q =
      λ q is. number-kept (rel start s' id q version v may.pass (low q is) below (leave q is)) in
      record {
        legal = record {
          may = k.0;
          owned = λ q e m at.
              ap (owner_over start.groups) ((may-leave start s' id q version v may.pass (low q (among q e)) below
              (leave q (among q e))).owned q refl m at) ∙ owner-past start.groups q ∙ ap (λ n. n + 1) e;
        };
        core = k.1 ∙ ap (λ numbers. record (acted_over (core_over stored start s) id h acts.Release) { numbers = numbers })
            (group-numbers stored start keeps tied tells s id h (version + 1) acts.Release (keeps-it v) gives-up v w may own inside moved each
            ∙ ap (upd (numbers_held s.views) id) (kept-over (head_in start.groups) h (numbers_held s.views id) (keeps-it v)
            (λ q. keeps_number c q) (λ q e. sym (kept q (among q e)))));
        sees = refl;
      }

  -- ---- as Evicted

  module _ (start : Origin) (s : Table (Option B) (View X)) (id q version : ℕ) (v : View X)
      (pass : IsPassOf stored start keeps tied tells s id v) (low : q < start.pages) (below : version < MAX_VERSION)
      (may : MayEvict v q version) where
    abbrev out : Releasing stored keeps tied start tells any-release
    out = evicting s pass.rule id v pass.there pass.live q version low below may

    abbrev gone : View X
    gone = record v { seats = put q (seat_left Evicts (seat_of v q)) v.seats }

    evict-acts : ActsAt stored start keeps tied tells s id q (word_of EVICTED (version + 1)) acts.ReleaseE gives-up v
    evict-acts =
        acts-at stored start keeps tied tells s id q (word_of EVICTED (version + 1)) acts.ReleaseE all gives-up v gone
        (moves-put gives-up q v gone refl refl refl refl) (release-legal out)
        (ap (λ (k : World). k.core.pages)
        (left-step stored start Evicts s [] (λ _. []) id v gone q (word_of EVICTED (version + 1)) pass.rule.wide.0 low
        pass.there refl refl refl refl refl (released-state out) (released-version out)))

  pub release_group_evicted-event : ReleaseGroupEvictedIsItsEvent stored keeps tied tells
  release_group_evicted-event start version below =
      are-events stored start keeps tied tells (λ q v. MayEvict v q version) (λ q n v w. EvictTold q version v w)
      (λ _. word_of EVICTED (version + 1)) (λ id h. ReleaseE id h) (λ v h found. sights.Done) acts.ReleaseE (λ n. gives-up)
      (λ q n u w t. moves-from all gives-up q t.brings (moves-put gives-up q u (evicted_view q u) refl refl refl refl))
      (λ s id q found v pass number low at under may. (evict-acts start s id q version v pass low below may, refl))
      (λ y id h l. l) (λ y id h. refl) (λ y heads owners id h. refl)
