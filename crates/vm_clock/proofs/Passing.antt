-- What a walk leaves of the words of a table that nobody else changes: each page passed has its word as the clock
-- leaves it, by the first visit.
use Rattle.vm_supply.specs.from_vm_rule.declared_view_WordPlace_TheVariants as places
use Rattle.vm_clock.specs.Clock.{Visits as visits, VisitsFrame as frames}
use Rattle.std.proofs.lemmas.List.{get_or_past}
use Rattle.vm_supply.specs.from_vm_step.Prelude.{known_word_at}
use Rattle.vm_clock.proofs.Prelude.{[], and_left, and_right, ap, arith, candidate_pages, cases_eq, cases_lt}
use Rattle.vm_clock.proofs.Prelude.{cond-false, cond-true, Did, did_change, did_load, Each, each-both, each-map}
use Rattle.vm_clock.proofs.Prelude.{else-knows, eq-eqb, eqb, false, Follows, follows-between, follows-kept}
use Rattle.vm_clock.proofs.Prelude.{follows-length, get_or-set_other, get_or-set_same, hand_more, has, has-both}
use Rattle.vm_clock.proofs.Prelude.{index_of, inl, inr, IsAlone, IsPassed, IsWalked, KnowsWalked, le-ltb, length}
use Rattle.vm_clock.proofs.Prelude.{length-set, List, Looks, lt-ltb, MARKED, MAX_VERSION, mod-lt, nat_tests, ne_eqb}
use Rattle.vm_clock.proofs.Prelude.{None, Origin, passed_word, refl, RunsAlone, set_if, slice_index, slice_set, Some}
use Rattle.vm_clock.proofs.Prelude.{state_of, subst, suc, sym, true, true≢false, UNLOCKED, version-within, version_of}
use Rattle.vm_clock.proofs.Prelude.{View, Visits, VisitsFrame, WalksFrames, Within, word-state, word_of, zero, ℕ}
use Rattle.vm_clock.proofs.Prelude.{⊎_elim, ◌%◌, ◌&&◌, ◌*◌, ◌++◌, ◌+◌, ◌<◌, ◌||◌, ◌∙◌, ◌∷◌, ◌≡◌, ◌≢◌, ◌≤◌, ◌⊎◌}
use Rattle.vm_clock.proofs.Visiting.{IsVisit, pages-end, visit-of}

-- ---- the word of one page

leaves-state : (word : ℕ) → state_of word ≢ UNLOCKED → passed_word word ≡ word
leaves-state word ne = cond-false _ _ _ (and_left _ _ (ne_eqb (state_of word) UNLOCKED ne))

-- a page that was passed is as it would be left
pass-twice : (word : ℕ) → passed_word (passed_word word) ≡ passed_word word
pass-twice word =
    let state = word-state MARKED (version_of word) (version-within word) in
    let within = version-within word in
    grind (arith, nat_tests, state, within)

-- ---- one visit

-- the words before and after a visit of page p
data Passes (chosen : List (ℕ × ℕ)) (p : ℕ) (a b : List ℕ) : Type 0 where
  again : has p (candidate_pages chosen) ≡ true → b ≡ a → Passes chosen p a b
  stays : passed_word (slice_index a p) ≡ slice_index a p → b ≡ a → Passes chosen p a b
  marks : b ≡ slice_set a p (passed_word (slice_index a p)) → Passes chosen p a b

module _ (start : Origin) where
  -- the look found the word, and left it
  looked : (p word : ℕ) (chosen : List (ℕ × ℕ)) (a b : List ℕ) → passed_word word ≡ word → (word ≡ slice_index a p)
      × (b ≡ a) → Passes chosen p a b
  looked p word chosen a b e f = stays (subst (λ n. passed_word n ≡ n) f.0 e) f.1

  visit-words : (p : ℕ) (steps : List Did) (chosen list : List (ℕ × ℕ)) (old new : Looks) (a b : List ℕ)
      → Visits chosen p steps old new list → Follows start steps a b → Passes chosen p a b
  visit-words p steps chosen list old new a b (visits.again word is steps_are e l) f =
      again is (subst (λ ds. Follows start ds a b) steps_are f).1
  visit-words p steps chosen list old new a b (visits.gone word look state e l) f =
      looked p word chosen a b (leaves-state word (λ x. (let no : 255 ≡ 0 = sym state ∙ x in omega (arith, no))))
      (subst (λ ds. Follows start ds a b) look.steps_are f)
  visit-words p steps chosen list old new a b (visits.held word look held e l) f =
      looked p word chosen a b
      (leaves-state word (λ x. (let some : 1 ≤ state_of word = held.0 in absurd (omega (arith, some, x)))))
      (subst (λ ds. Follows start ds a b) look.steps_are f)
  visit-words p steps chosen list old new a b (visits.worn word look state last e l) f =
      looked p word chosen a b
      (cond-false _ _ _ (and_right _ _ (le-ltb (version_of word) MAX_VERSION (omega (arith, last)))))
      (subst (λ ds. Follows start ds a b) look.steps_are f)
  visit-words p steps chosen list old new a b (visits.found word look state fresh e l) f =
      looked p word chosen a b (leaves-state word (λ x. (let no : 254 ≡ 0 = sym state ∙ x in omega (arith, no))))
      (subst (λ ds. Follows start ds a b) look.steps_are f)
  visit-words p steps chosen list old new a b (visits.lost word other ne look state fresh e l) f =
      let g = subst (λ ds. Follows start ds a b) look.steps_are f in
      absurd (ne (g.1.0 ∙ sym g.0))
  visit-words p steps chosen list old new a b (visits.marked word look state fresh e l) f =
      let g = subst (λ ds. Follows start ds a b) look.steps_are f in
      let wrote : b ≡ set_if (Some (word_of MARKED (version_of word))) p a =
      g.1.1 ∙ ap (λ o. set_if o p a)
      (cond-true (eqb word word) (Some (word_of MARKED (version_of word))) None (eq-eqb word word refl)) in
      marks (wrote ∙ ap (λ n. slice_set a p n)
      (sym (cond-true _ _ _ (λ i. eq-eqb (state_of word) UNLOCKED state i && lt-ltb (version_of word) MAX_VERSION
      fresh i)) ∙ ap passed_word g.0))

  passed-other : (p q : ℕ) (chosen : List (ℕ × ℕ)) (a b : List ℕ) → q ≢ p → Passes chosen p a b → slice_index b q ≡ slice_index a q
  passed-other p q chosen a b ne (again is e) = ap (λ (l : List ℕ). slice_index l q) e
  passed-other p q chosen a b ne (stays is e) = ap (λ (l : List ℕ). slice_index l q) e
  passed-other p q chosen a b ne (marks e) = ap (λ (l : List ℕ). slice_index l q) e ∙ get_or-set_other a p q _ 0 ne

  -- the word of the page before all visits: it has been left as it is, or passed, and that where the page was chosen
  passed-here : (p word : ℕ) (chosen : List (ℕ × ℕ)) (a b : List ℕ) → p < length a → (slice_index a p ≡ word)
      ⊎ (slice_index a p ≡ passed_word word)
      → (has p (candidate_pages chosen) ≡ true → slice_index a p ≡ passed_word word) → Passes chosen p a b
      → slice_index b p ≡ passed_word word
  passed-here p word chosen a b inside before known (again is e) = ap (λ (l : List ℕ). slice_index l p) e ∙ known is
  passed-here p word chosen a b inside before known (stays is e) =
      ap (λ (l : List ℕ). slice_index l p) e ∙ sym is ∙ ⊎_elim (λ same. ap passed_word same)
      (λ done. ap passed_word done ∙ pass-twice word) before
  passed-here p word chosen a b inside before known (marks e) =
      ap (λ (l : List ℕ). slice_index l p) e ∙ get_or-set_same a p _ 0 inside ∙ ⊎_elim (λ same. ap passed_word same)
      (λ done. ap passed_word done ∙ pass-twice word) before

-- ---- the walk

-- a candidate was one before, or is the page that was visited
chosen-more : {p : ℕ} {steps : List Did} {chosen list : List (ℕ × ℕ)} {old new : Looks}
    → IsVisit chosen p steps old new list → (q : ℕ) → has q (candidate_pages list) ≡ true
    → (has q (candidate_pages chosen) ≡ true) ⊎ (q ≡ p)
chosen-more {p = p} {chosen = chosen} v q h =
    ⊎_elim
    (λ same. inl (ap (λ c. has q (candidate_pages c)) (sym same) ∙ h))
    (λ m.
    let both : (has q (candidate_pages chosen) || (eqb q p || false)) ≡ true =
    sym (has-both q (candidate_pages chosen) (p ∷ [])) ∙ ap (has q) (sym (pages-end chosen (p, m.0)))
    ∙ ap (λ c. has q (candidate_pages c)) (sym m.4) ∙ h in
    ⊎_elim (λ (e : q ≡ p). inr e) (λ (ne : q ≢ p). inl (grind (arith, nat_tests, both, ne))) (cases_eq q p))
    v.chooses

-- ---- the pages passed, by the words of the table before the walk

-- the frame at one of the first places is page p's, by these words
abbrev IsOwnedAt : Origin → List ℕ → ℕ → ℕ → ℕ → Type 0
IsOwnedAt start words drawn count p =
    (k : ℕ) × (k < count) × (slice_index words (index_of start (places.Owner ((drawn + k) % start.frames))) ≡ p + 1)

owned-more : (start : Origin) (words : List ℕ) (drawn k q : ℕ) → IsOwnedAt start words drawn k q → IsOwnedAt start words drawn (suc k) q
owned-more start words drawn k q (j, low, is) = (j, omega (arith, low), is)

module _ (want drawn : ℕ) (start : Origin) where
  -- each step loads an owner word, or is at the state word of a page passed
  abbrev IsWalkStep : List ℕ → ℕ → Did → Type 0
  IsWalkStep a k d = ((f : ℕ) × (f < start.frames) × (d.at ≡ places.Owner f) × (d.wrote ≡ None))
      ⊎ ((q : ℕ) × (q < start.pages) × (d.at ≡ places.State q) × IsOwnedAt start a drawn k q)

  -- what a walk leaves of the words of a table that nobody else changes
  pub record IsLeft (k : ℕ) (done : List Did) (list : List (ℕ × ℕ)) (a b : List ℕ) : Type 0 where
    pub steps : Each (IsWalkStep a k) done
    -- the owner words are as they were
    pub owners : (f : ℕ) → slice_index b (index_of start (places.Owner f)) ≡ slice_index a (index_of start (places.Owner f))
    -- a page that was passed has its word as the clock leaves it, and any page has that or its word
    pub passed : (q : ℕ) → q < start.pages → q < length a → IsOwnedAt start a drawn k q → slice_index b q ≡ passed_word (slice_index a q)
    pub either : (q : ℕ) → q < start.pages → (slice_index b q ≡ slice_index a q) ⊎ (slice_index b q ≡ passed_word (slice_index a q))
    -- the candidates are pages that were passed
    pub chosen : (q : ℕ) → has q (candidate_pages list) ≡ true → IsOwnedAt start a drawn k q

  -- one visit more, of a frame whose page is looked at
  module _ (k p : ℕ) (before more : List Did) (chosen list : List (ℕ × ℕ)) (old new : Looks) (a mid b : List ℕ)
      (page : p < start.pages) (so-far : IsLeft k before chosen a mid)
      (named : slice_index mid (index_of start (places.Owner ((drawn + k) % start.frames))) ≡ p + 1)
      (visits : Visits chosen p more old new list) (f : Follows start more mid b)
      (long : length mid ≡ length a) where
    was : slice_index a (index_of start (places.Owner ((drawn + k) % start.frames))) ≡ p + 1
    was = sym (so-far.owners ((drawn + k) % start.frames)) ∙ named

    here : IsOwnedAt start a drawn (suc k) p
    here = (k, omega arith, was)

    passes : Passes chosen p mid b
    passes = visit-words start p more chosen list old new mid b visits f

    -- a page passed by now is this one, or was passed before
    this-or : (q : ℕ) → IsOwnedAt start a drawn (suc k) q → (q ≡ p) ⊎ IsOwnedAt start a drawn k q
    this-or q (j, low, is) =
        ⊎_elim
        (λ (l : j < k). inr (j, l, is))
        (λ (h : k ≤ j).
        let same : j ≡ k = omega (arith, low, h) in
        let two : q + 1 ≡ p + 1 =
        sym is ∙ ap (λ n. slice_index a (index_of start (places.Owner ((drawn + n) % start.frames)))) same
        ∙ was in
        inl (omega (arith, two)))
        (cases_lt j k)

    now : (q : ℕ) → q ≡ p → q < length a → slice_index b q ≡ passed_word (slice_index a q)
    now q same inside =
        let at-mid : q < length mid = subst (λ n. q < n) (sym long) inside in
        passed-here start q (slice_index a q) chosen mid b at-mid (so-far.either q (subst (λ n. n < start.pages) (sym same) page))
        (λ c. so-far.passed q (subst (λ n. n < start.pages) (sym same) page) inside (so-far.chosen q c))
        (subst (λ n. Passes chosen n mid b) (sym same) passes)

    pub left-more : (owner : Did) → (drawn + k) % start.frames < start.frames
        → owner.at ≡ places.Owner ((drawn + k) % start.frames) → owner.wrote ≡ None
        → IsLeft (suc k) (before ++ owner ∷ more) list a b
    left-more owner frame at none = record {
      steps =
          each-both (IsWalkStep a (suc k)) before (owner ∷ more)
          (each-map (IsWalkStep a k) (IsWalkStep a (suc k))
          (λ d s. ⊎_elim (λ o. inl o) (λ t. inr (t.0, t.1, t.2, owned-more start a drawn k t.0 t.3)) s) before
          so-far.steps) (
            inl ((drawn + k) % start.frames, frame, at, none),
            each-map _ (IsWalkStep a (suc k))
                (λ (d : Did) is. inr (p, page, is, here)) more (visit-of p more chosen list old new visits).there,
          );
      owners = λ g. passed-other start p (index_of start (places.Owner g)) chosen mid b (λ e. omega (arith, e, page))
          passes ∙ so-far.owners g;
      passed = λ q l inside own.
          ⊎_elim (λ same. now q same inside)
          (λ earlier. ⊎_elim (λ same. now q same inside)
          (λ ne. passed-other start p q chosen mid b ne passes ∙ so-far.passed q l inside earlier) (cases_eq q p))
          (this-or q own);
      either = λ q l.
          ⊎_elim
          (λ same. ⊎_elim
          (λ inside. inr (now q same inside))
          (λ past. inl (get_or_past b q 0 (omega (arith, past, follows-length start more mid b f, long)) ∙ sym (get_or_past a q 0 past)))
          (cases_lt q (length a)))
          (λ ne. ⊎_elim (λ e. inl (passed-other start p q chosen mid b ne passes ∙ e))
          (λ e. inr (passed-other start p q chosen mid b ne passes ∙ e)) (so-far.either q l))
          (cases_eq q p);
      chosen = λ q c. ⊎_elim (λ old. owned-more start a drawn k q (so-far.chosen q old))
          (λ e. subst (IsOwnedAt start a drawn (suc k)) (sym e) here)
          (chosen-more (visit-of p more chosen list old new visits) q c);
    }

  pub walk-left : (k : ℕ) (done : List Did) (looks : Looks) (list : List (ℕ × ℕ)) (a b : List ℕ)
      → k ≤ 2 * start.frames → WalksFrames want start.pages start.frames drawn k done looks list
      → Follows start done a b → IsLeft k done list a b
  walk-left zero done looks list a b most w f =
      let same : b ≡ a = subst (λ ds. Follows start ds a b) w.0 f in
      record {
        steps = subst (Each (IsWalkStep a 0)) (sym w.0) tt;
        owners = λ g. ap (λ (l : List ℕ). slice_index l (index_of start (places.Owner g))) same;
        passed = λ q l inside own. absurd (let low : own.0 < 0 = own.1 in omega (arith, low));
        either = λ q l. inl (ap (λ (l : List ℕ). slice_index l q) same);
        chosen = λ q c. absurd (true≢false (sym c ∙ ap (λ l. has q (candidate_pages l)) w.2));
      }
  walk-left (suc k) done looks list a b most (before, steps, old, chosen, cut, walk, room, visit) f =
      let g = follows-between start before steps a b (subst (λ ds. Follows start ds a b) cut f) in
      let so-far = walk-left k before old chosen a g.0 (omega (arith, most)) walk g.1 in
      subst (λ ds. IsLeft (suc k) ds list a b) (sym cut)
      (by-frame k before steps chosen list old looks a g.0 b so-far visit g.2
      (follows-length start before a g.0 g.1) (mod-lt (drawn + k) (omega (arith, most))))
    where
      by-frame : (k : ℕ) (before steps : List Did) (chosen list : List (ℕ × ℕ)) (old new : Looks) (a mid b : List ℕ)
          → IsLeft k before chosen a mid → VisitsFrame start.pages chosen ((drawn + k) % start.frames) steps old new
          list
          → Follows start steps mid b → length mid ≡ length a → (drawn + k) % start.frames < start.frames
          → IsLeft (suc k) (before ++ steps) list a b
      by-frame k before steps chosen list old new a mid b so-far (frames.empty are e l) f long frame =
          let g = subst (λ ds. Follows start ds mid b) are f in
          let none : slice_index a (index_of start (places.Owner ((drawn + k) % start.frames))) ≡ 0 =
          sym (so-far.owners ((drawn + k) % start.frames)) ∙ sym g.0 in
          let before-or : (q : ℕ) → IsOwnedAt start a drawn (suc k) q → IsOwnedAt start a drawn k q = λ q own.
          ⊎_elim (λ low. (own.0, low, own.2))
          (λ (past : k ≤ own.0).
          let same : own.0 ≡ k = (let lt : own.0 < suc k = own.1 in omega (arith, past, lt)) in
          let zero' : 0 ≡ q + 1 =
          sym none ∙ ap (λ n. slice_index a (index_of start (places.Owner ((drawn + n) % start.frames))))
          (sym same) ∙ own.2 in
          absurd (omega (arith, zero')))
          (cases_lt own.0 k) in
          subst (λ (c : List (ℕ × ℕ)). IsLeft (suc k) (before ++ steps) c a b) (sym l)
          (subst (IsLeft (suc k) (before ++ steps) chosen a) (sym g.1)
          record {
            steps = each-both (IsWalkStep a (suc k)) before steps
                (each-map (IsWalkStep a k) (IsWalkStep a (suc k))
                (λ d s. ⊎_elim (λ o. inl o) (λ t. inr (t.0, t.1, t.2, owned-more start a drawn k t.0 t.3)) s)
                before so-far.steps)
                (subst (Each (IsWalkStep a (suc k))) (sym are) (inl ((drawn + k) % start.frames, frame, refl, refl), tt));
            owners = so-far.owners;
            passed = λ q l inside own. so-far.passed q l inside (before-or q own);
            either = so-far.either;
            chosen = λ q c. owned-more start a drawn k q (so-far.chosen q c);
          })
      by-frame k before steps chosen list old new a mid b so-far (frames.named p more page are visits) f long frame =
          let g = subst (λ ds. Follows start ds mid b) are f in
          subst (λ ds. IsLeft (suc k) (before ++ ds) list a b) (sym are)
          (left-more k p before more chosen list old new a mid b page so-far (sym g.0) visits g.1 long
          (did_load (places.Owner ((drawn + k) % start.frames)) (p + 1)) frame refl refl)

-- ---- the table

module _ {X : Type 0} (want drawn count : ℕ) (steps : List Did) (looks : Looks) (list : List (ℕ × ℕ)) (v w : View X)
    (same : w.start ≡ v.start) (walk : WalksFrames want v.start.pages v.start.frames drawn count steps looks list)
    (most : count ≤ 2 * v.start.frames)
    (runs : RunsAlone (did_change places.Hand drawn (hand_more drawn) ∷ steps) [] v w) (alone : IsAlone v) where
  abbrev hand-did : Did
  hand-did = did_change places.Hand drawn (hand_more drawn)

  -- the words once the hand was moved
  abbrev moved : List ℕ
  moved = slice_set v.snapshot.words (index_of v.start places.Hand) (hand_more drawn)

  abbrev pages : ℕ
  pages = v.start.pages

  follows : Follows v.start (hand-did ∷ steps) v.snapshot.words w.snapshot.words
  follows = runs.words alone.0 alone.1

  long : length w.snapshot.words ≡ length v.snapshot.words
  long = follows-length v.start (hand-did ∷ steps) v.snapshot.words w.snapshot.words follows

  left : IsLeft want drawn v.start count steps list moved w.snapshot.words
  left = walk-left want drawn v.start count steps looks list moved w.snapshot.words most walk follows.1

  -- the hand is no owner word, so they are those that the pass knew
  was-owned : (f : ℕ) → slice_index moved (index_of v.start (places.Owner f)) ≡ known_word_at v (places.Owner f)
  was-owned f = get_or-set_other v.snapshot.words (index_of v.start places.Hand) (index_of v.start (places.Owner f))
      (hand_more drawn) 0 (omega arith)

  walked : Each (λ (d : Did). ((f : ℕ) × (f < v.start.frames) × (d.at ≡ places.Owner f) × (d.wrote ≡ None))
      ⊎ ((q : ℕ) × (q < pages) × (d.at ≡ places.State q) × IsPassed v drawn count q)) steps
  walked = each-map _ _ (λ d s.
      ⊎_elim (λ o. inl o) (λ t.
      inr (t.0, t.1, t.2, (t.3.0, t.3.1, sym (was-owned ((drawn + t.3.0) % v.start.frames)) ∙ t.3.2))) s) steps
      left.steps

  hand-stays : slice_index w.snapshot.words (index_of v.start places.Hand) ≡ slice_index moved (index_of v.start places.Hand)
  hand-stays =
      follows-kept v.start places.Hand steps moved w.snapshot.words follows.1
      (each-map _ _ (λ (d : Did) h.
      ⊎_elim (λ o. inl o.3) (λ t.
      inr (λ e. (let at : index_of v.start places.Hand ≡ t.0 = e ∙ ap (index_of v.start) t.2 in let low = t.1 in
      omega (arith, at, low)))) h) steps walked)

  pub walked-knows : KnowsWalked drawn count v w
  walked-knows = record {
    drawn_is = follows.0;
    hand = λ inside.
        let there : index_of v.start places.Hand < length v.snapshot.words =
        subst (λ n. index_of v.start places.Hand < n) long
        (subst (λ (o : Origin). index_of o places.Hand < length w.snapshot.words) same inside) in
        ap (λ (o : Origin). slice_index w.snapshot.words (index_of o places.Hand)) same ∙ hand-stays
        ∙ get_or-set_same v.snapshot.words (index_of v.start places.Hand) (hand_more drawn) 0 there;
    passed = λ p page is inside.
        let there : p < length v.snapshot.words = subst (λ n. p < n) long inside in
        let other : p ≢ index_of v.start places.Hand = omega (arith, page) in
        left.passed p page (subst (λ n. p < n)
        (sym (length-set v.snapshot.words (index_of v.start places.Hand) (hand_more drawn))) there)
        (is.0, is.1, was-owned ((drawn + is.0) % v.start.frames) ∙ is.2)
        ∙ ap passed_word (get_or-set_other v.snapshot.words (index_of v.start places.Hand) p (hand_more drawn) 0 other);
    others =
        else-knows (IsWalked v drawn count) (hand-did ∷ steps) [] v w same runs (
          (tt, inr (inl refl)),
          each-map _ _
              (λ (d : Did) h. (there d h, ⊎_elim (λ o. inl o.3) (λ t. inr (inr (t.0, t.2, t.3))) h)) steps walked,
        )
        alone;
  }
    where
      there : (d : Did) → ((f : ℕ) × (f < v.start.frames) × (d.at ≡ places.Owner f) × (d.wrote ≡ None))
          ⊎ ((q : ℕ) × (q < pages) × (d.at ≡ places.State q) × IsPassed v drawn count q) → Within v.start d.at
      there d h = ⊎_elim (λ o. subst (Within v.start) (sym o.2) o.1) (λ t. subst (Within v.start) (sym t.2) t.1) h
