-- What a release leaves of page numbers, the first one of a group or of a page alone, and that of a later member: the
-- part of the rule on them holds after it.
use mathlib.Core.Option as maybe
use mathlib.Core.Option.{some-injective}
use Rattle.std.specs.Prelude.{map}
use Rattle.vm_event.specs.Prelude.{has_free_bit}
use Rattle.vm_numbers.specs.Hands.{after_first, after_later, all_zero, freed_of, Hands}
use Rattle.vm_numbers.specs.Hands.{IsNoOther, IsUsable, less, NumbersFit}
use Rattle.vm_numbers.proofs.Steps.{first_keeps, later_keeps}
use Rattle.vm_owner.proofs.NumberLemmas.{without-none}
use Rattle.vm_rule.specs.Releases.{freed_by, released_view}
use Rattle.vm_rule.specs.Reading.{last_of}
use Rattle.vm_rule.specs.Rule.{hands_of}
use Rattle.vm_rule.specs.declared.view.Release.{Release as Released}
use Rattle.vm_rule.proofs.{Facts.any-here, Facts.any-true, Facts.caller-here, Facts.has-both, Numbered.hands-set}
use Rattle.vm_rule.proofs.{Numbered.hands-there, Views.any-same, Views.at-bound, Views.set-each, Worlds.draft-is}
use Rattle.vm_rule.proofs.{Worlds.release-else, Worlds.release-here}
use Rattle.vm_rule.proofs.Prelude.{[], any, ap, at, Bool, cases_Bool, cases_eq, cases_lt, core_shown, draft_of}
use Rattle.vm_rule.proofs.Prelude.{eq-eqb, eqb, false, false≢true, fun_ext, get_elem?, has, histories_of, History}
use Rattle.vm_rule.proofs.Prelude.{has-without_other, has-without_same, if◌then◌else◌, inl, is_pending, Kept}
use Rattle.vm_rule.proofs.Prelude.{KnowsPages, List, logical, ne_eqb, Option, Origin, or-true, refl, replicate, Ruled}
use Rattle.vm_rule.proofs.Prelude.{seat_of, set_here, slice_set, some, Start, Stored, subst, suc, sym, Table, true}
use Rattle.vm_rule.proofs.Prelude.{true≢false, View, without, without_all, world_of, zero, ℕ, ⊎_elim, ◌&&◌, ◌++◌, ◌<◌}
use Rattle.vm_rule.proofs.Prelude.{◌||◌, ◌∙◌, ◌∷◌, ◌≡◌, ◌≢◌}

-- ---- lists

-- whom hands belong to
hands-from : {X : Type 0} (views : List (View X)) (j : ℕ) (h : Hands) → get_elem? (map hands_of views) j ≡ some h
    → (u : View X) × (get_elem? views j ≡ some u) × (hands_of u ≡ h)
hands-from [] j h e = absurd (maybe.some-ne-none h (sym e))
hands-from (x ∷ xs) zero h e = (x, refl, some-injective (hands_of x) h e)
hands-from (x ∷ xs) (suc j) h e = hands-from xs j h e

less-is : (l m : List ℕ) → without_all l m ≡ less l m
less-is [] m = refl
less-is (q ∷ qs) m = less-is qs (without q m)

freed-as : (last last' drafts : ℕ → List ℕ) (qs : List ℕ) → ((q : ℕ) → has q qs ≡ true → last q ≡ last' q)
    → freed_of last drafts qs ≡ freed_of last' drafts qs
freed-as last last' drafts [] same = refl
freed-as last last' drafts (q ∷ qs) same =
    let one : last q ≡ last' q = same q (ap (λ b. b || has q qs) (eq-eqb q q refl)) in
    let more : (n : ℕ) → has n qs ≡ true → last n ≡ last' n = λ n e. same n (ap (λ b. eqb n q || b) e ∙ or-true (eqb n q)) in
    λ i. if (if all_zero (one i) then false else all_zero (drafts q)) then q ∷ freed-as last last' drafts qs more i
    else freed-as last last' drafts qs more i

-- a page that is not zero is not the zero page
pub zeros-are : (n : ℕ) → all_zero (replicate n 0) ≡ true
zeros-are zero = refl
zeros-are (suc n) = zeros-are n

pub logical-draft : (h : ℕ → History) (members : ℕ → Bool) (q : ℕ) → members q ≡ true
    → logical h members q ≡ (h q).draft
unfolding logical
logical-draft h members q e = rw e refl

logical-last : (h : ℕ → History) (members : ℕ → Bool) (q : ℕ) → members q ≡ false
    → logical h members q ≡ (h q).last.words
unfolding logical
logical-last h members q e = rw e refl

module _ {X : Type 0} where
  nobody : (f : View X → Bool) (views : List (View X))
      → ((j : ℕ) (u : View X) → get_elem? views j ≡ some u → f u ≡ false) → any f views ≡ false
  nobody f views none = ⊎_elim (λ t. let k = any-true f views t in absurd (true≢false (sym k.3 ∙ none k.0 k.1 k.2)))
      (λ n. n) (cases_Bool (any f views))

  -- what the pass has of page numbers after the first release
  pub released-hands : (v : View X) (p : ℕ) (rest : List ℕ) (said : Option X) (last : ℕ → List ℕ)
      → has p v.pending ≡ false → v.start.tells ≡ true
      → ((q : ℕ) → has q (p ∷ rest) ≡ true → (last_of v q).words ≡ last q)
      → hands_of (released_view p rest said v) ≡ after_first p rest last (draft_of v) (hands_of v)
  released-hands v p rest said last fresh tells same i = record {
    numbers = if tells i && all_zero (draft_of v p) then v.numbers else without p v.numbers;
    freed = ((λ j. if fresh j then v.freed else freed_by v (p ∷ rest) ++ v.freed)
        ∙ (λ j. freed-as (λ q. (last_of v q).words) last (draft_of v) (p ∷ rest) same j ++ v.freed)) i;
    owed = less-is (p ∷ rest) v.owed i;
    pending = if fresh i then without p v.pending else rest ++ v.pending;
  }

  -- and after that of a later member
  pub later-hands : (v : View X) (p : ℕ) (said : Option X) → has p v.pending ≡ true → v.start.tells ≡ true
      → has p v.owed ≡ false → hands_of (released_view p [] said v) ≡ after_later p (draft_of v) (hands_of v)
  later-hands v p said member tells none i = record {
    numbers = if tells i && all_zero (draft_of v p) then v.numbers else without p v.numbers;
    freed = if member i then v.freed else freed_by v (p ∷ []) ++ v.freed;
    owed = without-none p v.owed none i;
    pending = if member i then without p v.pending else v.pending;
  }

module _ {X B : Type 0} (stored : B → Stored) (keeps : Start → Kept X → Type 0)
    (tied : Start → ℕ → List ℕ → ℕ → List ℕ → Type 0) (start : Origin) (tells : Bool)
    (s : Table (Option B) (View X)) (r : Ruled stored keeps tied start tells s) (id : ℕ) (v : View X)
    (there : get_elem? s.views id ≡ some v) (live : v.live ≡ true) where
  abbrev histories : ℕ → History
  histories = histories_of start r.releases r.drafts

  abbrev last_words : ℕ → List ℕ
  last_words q = (histories q).last.words

  -- a page that the pass holds exclusively is no other's member, and owed to no other
  pub alone-there : (q : ℕ) → q < start.pages → (seat_of v q).exclusive ≡ true → (j : ℕ) (u : View X) → j ≢ id
      → get_elem? s.views j ≡ some u → (has q u.pending ≡ false) × (has q u.owed ≡ false)
  alone-there q l owns j u ne on =
      let k : (x : KnowsPages tied start (world_of stored start r.releases r.drafts s) (is_pending s.views) u)
      → (seat_of u q).exclusive ≡ true → ⊥ =
      λ x held. ne (caller-here stored start s id j q v u (r.inv.pages q).locks l there
      (ap (λ b. b || (seat_of v q).writing) owns) on (ap (λ b. b || (seat_of u q).writing) held)) in (
        ⊎_elim (λ t. absurd (⊎_elim (λ on'. let x = r.known j u on on' in k x (x.pending q t).0)
            (λ off. false≢true (ap (λ (y : View X). has q y.pending) (sym (r.parts.spent j u on off)) ∙ t))
            (cases_Bool u.live))) (λ n. n) (cases_Bool (has q u.pending)),
        ⊎_elim (λ t. absurd (⊎_elim (λ on'. let x = r.known j u on on' in k x (x.owed q t).0)
            (λ off. false≢true (ap (λ (y : View X). has q y.owed) (sym (r.parts.spent j u on off)) ∙ t))
            (cases_Bool u.live))) (λ n. n) (cases_Bool (has q u.owed)),
      )

  -- the group: the pages of it are the pass's, none is a member still to be released, and each is changed only where
  -- the pass may
  module _ (t : start.tells ≡ true) (p : ℕ) (rest : List ℕ) (said : Option X) (apart : has p rest ≡ false)
      (inside : (q : ℕ) → has q (p ∷ rest) ≡ true → q < start.pages) (owns : (q : ℕ) → has q (p ∷ rest) ≡ true
      → (seat_of v q).exclusive ≡ true)
      (new : (q : ℕ) → has q (p ∷ rest) ≡ true → has q v.pending ≡ false)
      (own : (q : ℕ) → has q (p ∷ rest) ≡ true → IsUsable (hands_of v) (last_of v q).words (draft_of v q) q)
      (w : View X) (is : hands_of w ≡ hands_of (released_view p rest said v)) (release : Released)
      (of : release.page ≡ p) (draft : release.words ≡ draft_of v p) where
    k : KnowsPages tied start (world_of stored start r.releases r.drafts s) (is_pending s.views) v
    k = r.known id v there live

    is-first : has p (p ∷ rest) ≡ true
    is-first = ap (λ b. b || has p rest) (eq-eqb p p refl)

    last-is : (q : ℕ) → has q (p ∷ rest) ≡ true → (last_of v q).words ≡ last_words q
    last-is q e = ap (λ x. x.words) (k.latest q (inl (owns q e)))

    alone-in : (q : ℕ) → has q (p ∷ rest) ≡ true → IsNoOther (map hands_of s.views) id q
    alone-in q e j h ne at =
        let u = hands-from s.views j h at in
        subst (λ (y : Hands). (has q y.pending ≡ false) × (has q y.owed ≡ false)) u.2 (alone-there q (inside q e) (owns q e) j u.0 ne u.1)

    not-pending : (q : ℕ) → has q (p ∷ rest) ≡ true → is_pending s.views q ≡ false
    not-pending q e =
        nobody (λ y. has q y.pending) s.views (λ j u on.
        ⊎_elim (λ (same : j ≡ id). ap (λ (y : View X). has q y.pending)
        (some-injective u v (sym on ∙ ap (get_elem? s.views) same ∙ there)) ∙ new q e)
        (λ ne. (alone-there q (inside q e) (owns q e) j u ne on).0)
        (cases_eq j id))

    used : (q : ℕ) → has q (p ∷ rest) ≡ true → all_zero (last_words q) ≡ false → q < (core_shown stored start s).next
    used q e full = ⊎_elim (λ l. l)
        (λ past. absurd (true≢false (sym (ap all_zero (r.zero t q past (inside q e)) ∙ zeros-are start.size) ∙ full)))
        (cases_lt q (core_shown stored start s).next)

    -- after it
    abbrev releases : List Released
    releases = r.releases ++ release ∷ []

    abbrev histories' : ℕ → History
    histories' = histories_of start releases r.drafts

    pending-is : w.pending ≡ rest ++ v.pending
    pending-is = ap (λ (h : Hands). h.pending) is ∙ ap (λ b. if b then without p v.pending else rest ++ v.pending) (new p is-first)

    last-here : (histories' p).last.words ≡ draft_of v p
    last-here = ap (λ q. (histories' q).last.words) (sym of) ∙ ap (λ (h : History). h.last.words)
        (release-here start r.releases r.drafts release) ∙ draft

    last-else : (q : ℕ) → q ≢ p → (histories' q).last.words ≡ last_words q
    last-else q ne = ap (λ (h : History). h.last.words) (release-else start r.releases r.drafts release q (λ e. ne (e ∙ of)))

    members-after : (q : ℕ) → is_pending (slice_set s.views id w) q ≡ (has q rest || is_pending s.views q)
    members-after q =
        ⊎_elim
        (λ a. any-here (λ y. has q y.pending) (slice_set s.views id w) id w
        (set_here s.views id w (at-bound s.views id v there))
        (ap (has q) pending-is ∙ has-both q rest v.pending ∙ ap (λ b. b || has q v.pending) a)
        ∙ sym (ap (λ b. b || is_pending s.views q) a))
        (λ a. still q a ∙ sym (ap (λ b. b || is_pending s.views q) a))
        (cases_Bool (has q rest))
      where
        still : (q : ℕ) → has q rest ≡ false → is_pending (slice_set s.views id w) q ≡ is_pending s.views q
        still q a = any-same (λ y. has q y.pending) s.views id v w there
            (ap (has q) pending-is ∙ has-both q rest v.pending ∙ ap (λ b. b || has q v.pending) a)

    logical-in : (q : ℕ) → has q (p ∷ rest) ≡ true
        → logical histories' (is_pending (slice_set s.views id w)) q ≡ draft_of v q
    logical-in q e =
        ⊎_elim
        (λ (a : has q rest ≡ true). logical-draft histories' (is_pending (slice_set s.views id w)) q
        (members-after q ∙ ap (λ b. b || is_pending s.views q) a) ∙ draft-is start releases r.drafts q
        ∙ sym (k.drafts q (owns q e) ∙ draft-is start r.releases r.drafts q))
        (λ (a : has q rest ≡ false).
        let same : q ≡ p = ⊎_elim (λ x. x)
        (λ ne. absurd (true≢false (sym e ∙ ap (λ b. b || has q rest) (ne_eqb q p ne) ∙ a))) (cases_eq q p) in
        logical-last histories' (is_pending (slice_set s.views id w)) q
        (members-after q ∙ ap (λ b. b || is_pending s.views q) a ∙ not-pending q e)
        ∙ ap (λ x. (histories' x).last.words) same ∙ last-here ∙ ap (draft_of v) (sym same))
        (cases_Bool (has q rest))

    logical-out : (q : ℕ) → has q (p ∷ rest) ≡ false → logical histories' (is_pending (slice_set s.views id w))
        q ≡ logical histories (is_pending s.views) q
    logical-out q e =
        let ne : q ≢ p = λ same. true≢false (sym (ap (λ x. has x (p ∷ rest)) same ∙ is-first) ∙ e) in
        let none : has q rest ≡ false = sym (ap (λ b. b || has q rest) (ne_eqb q p ne)) ∙ e in
        let members : is_pending (slice_set s.views id w) q ≡ is_pending s.views q =
        members-after q ∙ ap (λ b. b || is_pending s.views q) none in
        ⊎_elim
        (λ a. logical-draft histories' (is_pending (slice_set s.views id w)) q (members ∙ a) ∙ draft-is start releases
        r.drafts q ∙ sym (logical-draft histories (is_pending s.views) q a ∙ draft-is start r.releases r.drafts
        q))
        (λ a. logical-last histories' (is_pending (slice_set s.views id w)) q (members ∙ a) ∙ last-else q ne
        ∙ sym (logical-last histories (is_pending s.views) q a))
        (cases_Bool (is_pending s.views q))

    -- the part of the rule, after the first release
    pub first-release-fits : NumbersFit (has_free_bit (core_shown stored start s).spares)
        (core_shown stored start s).next (λ q. (histories' q).last.words)
        (logical histories' (is_pending (slice_set s.views id w))) (map hands_of (slice_set s.views id w))
    first-release-fits =
        subst (NumbersFit (has_free_bit (core_shown stored start s).spares) (core_shown stored start s).next
        (λ q. (histories' q).last.words) (logical histories' (is_pending (slice_set s.views id w))))
        (ap (slice_set (map hands_of s.views) id)
        (sym (is ∙ released-hands v p rest said last_words (new p is-first)
        (ap (λ (o : Origin). o.tells) (r.heard id v there live).same_start ∙ t) last-is))
        ∙ sym (hands-set s.views id w))
        (first_keeps (has_free_bit (core_shown stored start s).spares) (core_shown stored start s).next last_words
        (logical histories (is_pending s.views)) (map hands_of s.views) id (hands_of v)
        (hands-there s.views id v there) (r.numbers t)
        p rest (draft_of v) (λ q. (histories' q).last.words) (logical histories' (is_pending (slice_set s.views id w)))
        alone-in
        (λ q e. (new q e, subst (λ (l : List ℕ). IsUsable (hands_of v) l (draft_of v q) q) (last-is q e) (own q e)))
        apart used (λ q e. logical-last histories (is_pending s.views) q (not-pending q e)) last-here last-else logical-in logical-out)

  -- ---- a later member

  module _ (t : start.tells ≡ true) (p : ℕ) (said : Option X) (inside : p < start.pages) (member : has p v.pending ≡ true)
      (w : View X) (is : hands_of w ≡ hands_of (released_view p [] said v)) (release : Released)
      (of : release.page ≡ p) (draft : release.words ≡ draft_of v p) where
    k' : KnowsPages tied start (world_of stored start r.releases r.drafts s) (is_pending s.views) v
    k' = r.known id v there live

    held : (seat_of v p).exclusive ≡ true
    held = (k'.pending p member).0

    drafted : draft_of v p ≡ r.drafts p
    drafted = k'.drafts p held ∙ draft-is start r.releases r.drafts p

    not-owed : has p v.owed ≡ false
    not-owed = ⊎_elim (λ o. absurd (true≢false (sym member ∙ (k'.owed p o).3))) (λ n. n) (cases_Bool (has p v.owed))

    abbrev after' : ℕ → History
    after' = histories_of start (r.releases ++ release ∷ []) r.drafts

    left-is : w.pending ≡ without p v.pending
    left-is = ap (λ (h : Hands). h.pending) is ∙ ap (λ b. if b then without p v.pending else v.pending) member

    last-now : (after' p).last.words ≡ draft_of v p
    last-now = ap (λ q. (after' q).last.words) (sym of) ∙ ap (λ (h : History). h.last.words)
        (release-here start r.releases r.drafts release) ∙ draft

    last-still : (q : ℕ) → q ≢ p → (after' q).last.words ≡ last_words q
    last-still q ne = ap (λ (h : History). h.last.words) (release-else start r.releases r.drafts release q (λ e. ne (e ∙ of)))

    was-member : is_pending s.views p ≡ true
    was-member = any-here (λ y. has p y.pending) s.views id v there member

    no-member : is_pending (slice_set s.views id w) p ≡ false
    no-member = nobody (λ y. has p y.pending) (slice_set s.views id w)
        (set-each (λ y. has p y.pending ≡ false) s.views id w (ap (has p) left-is ∙ has-without_same p v.pending)
        (λ j u ne on. (alone-there p inside held j u ne on).0))

    same-member : (q : ℕ) → q ≢ p → is_pending (slice_set s.views id w) q ≡ is_pending s.views q
    same-member q ne = any-same (λ y. has q y.pending) s.views id v w there (ap (has q) left-is ∙ has-without_other p q v.pending ne)

    logical-here : (q : ℕ) → logical (histories) (is_pending s.views) q ≡ logical after' (is_pending (slice_set s.views id w)) q
    logical-here q =
        ⊎_elim
        (λ (same : q ≡ p). ap (logical histories (is_pending s.views)) same ∙ logical-draft histories
        (is_pending s.views) p was-member ∙ draft-is start r.releases r.drafts p ∙ sym drafted ∙ sym last-now
        ∙ sym (ap (logical after' (is_pending (slice_set s.views id w))) same ∙ logical-last after'
        (is_pending (slice_set s.views id w)) p no-member))
        (λ ne. ⊎_elim
        (λ a. logical-draft histories (is_pending s.views) q a ∙ draft-is start r.releases r.drafts q
        ∙ sym (logical-draft after' (is_pending (slice_set s.views id w)) q (same-member q ne ∙ a)
        ∙ draft-is start (r.releases ++ release ∷ []) r.drafts q))
        (λ a. logical-last histories (is_pending s.views) q a
        ∙ sym (logical-last after' (is_pending (slice_set s.views id w)) q (same-member q ne ∙ a)
        ∙ last-still q ne))
        (cases_Bool (is_pending s.views q)))
        (cases_eq q p)

    -- the part of the rule, after the release of a later member
    pub later-release-fits : NumbersFit (has_free_bit (core_shown stored start s).spares)
        (core_shown stored start s).next (λ q. (after' q).last.words)
        (logical after' (is_pending (slice_set s.views id w))) (map hands_of (slice_set s.views id w))
    later-release-fits =
        subst (λ f. NumbersFit (has_free_bit (core_shown stored start s).spares) (core_shown stored start s).next
        (λ q. (after' q).last.words) f (map hands_of (slice_set s.views id w))) (fun_ext logical-here)
        (subst (NumbersFit (has_free_bit (core_shown stored start s).spares) (core_shown stored start s).next
        (λ q. (after' q).last.words) (logical histories (is_pending s.views)))
        (ap (slice_set (map hands_of s.views) id)
        (sym (is ∙ later-hands v p said member (ap (λ (o : Origin). o.tells) (r.heard id v there live).same_start
        ∙ t) not-owed)) ∙ sym (hands-set s.views id w))
        (later_keeps (has_free_bit (core_shown stored start s).spares) (core_shown stored start s).next last_words
        (logical histories (is_pending s.views)) (map hands_of s.views) id (hands_of v)
        (hands-there s.views id v there) (r.numbers t)
        p (draft_of v) (λ q. (after' q).last.words) member
        (λ j h ne at. let u = hands-from s.views j h at in
        subst (λ (y : Hands). (has p y.pending ≡ false) × (has p y.owed ≡ false)) u.2
        (alone-there p inside held j u.0 ne u.1))
        (logical-draft histories (is_pending s.views) p was-member ∙ draft-is start r.releases r.drafts p ∙ sym drafted)
        last-now last-still))
