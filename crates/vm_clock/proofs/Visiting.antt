-- The pages among the candidates, and what a visit comes to.
use Rattle.vm_supply.specs.from_vm_rule.declared_view_WordPlace_TheVariants as places
use Rattle.vm_clock.specs.Clock.{Visits as visits, VisitsFrame as frames}
use Rattle.vm_event.specs.Prelude.{at, has_free_bit, upd}
use Rattle.vm_event.proofs.Upd.{upd-other, upd-same}
use Rattle.vm_supply.specs.from_vm_step.steps_Owner.{OwnerLoadTold}
use Rattle.vm_supply.proofs.from_vm_step.{Asides.alone-silent, steps_Leaving.only-of, steps_Leaving.others-still}
use Rattle.vm_supply.proofs.from_vm_step.steps_Unchanged.{still-holds, still-knows, still-own}
use Rattle.vm_clock.proofs.Prelude.{[], ap, apart-end, AreApart, AreCandidates, arith, aside-within, Bool}
use Rattle.vm_clock.proofs.Prelude.{candidate_pages, cases_eq, Did, did_exchange, did_load, Each, each-both, each-map}
use Rattle.vm_clock.proofs.Prelude.{eq-eqb, eqb, false, FindsOwner, has, has-both, HoldsChosen, inl, inr, IsBelowLast}
use Rattle.vm_clock.proofs.Prelude.{IsCandidate, IsFrameVisited, IsPageVisited, length, List, look-only, Looks}
use Rattle.vm_clock.proofs.Prelude.{looks_counted, LooksAt, LookTold, mark-only, MARKED, MarkTold, MAX_VERSION}
use Rattle.vm_clock.proofs.Prelude.{nat_tests, ne_eqb, None, only-then, OnlyReads, refl, rules, runs-one, runs-then}
use Rattle.vm_clock.proofs.Prelude.{RunsAlone, slice_index_or, Start, state_of, subst, suc, sym, take, true}
use Rattle.vm_clock.proofs.Prelude.{version-within, version_of, View, Visits, VisitsFrame, word_of, zero, ℕ, ⊎_elim}
use Rattle.vm_clock.proofs.Prelude.{◌%◌, ◌++◌, ◌+◌, ◌<◌, ◌||◌, ◌∙◌, ◌∷◌, ◌≡◌, ◌≢◌, ◌≤◌, ◌⊎◌}

-- one place further in the list
pub has-next : (p : ℕ) (l : List (ℕ × ℕ)) (i : ℕ) (d : ℕ × ℕ) → i < length l → (slice_index_or l i d).0 ≢ p
    → has p (candidate_pages (take i l)) ≡ false → has p (candidate_pages (take (suc i) l)) ≡ false
has-next p [] i d lt ne none = absurd (omega (arith, lt))
has-next p (x ∷ xs) zero d lt ne none = rw (ne_eqb p x.0 (λ e. ne (sym e))) refl
has-next p (x ∷ xs) (suc i) d lt ne none =
    let other : p ≢ x.0 = grind (arith, nat_tests, none) in
    let rest : has p (candidate_pages (take i xs)) ≡ false = grind (arith, nat_tests, none) in
    rw (ne_eqb p x.0 other) (has-next p xs i d (omega (arith, lt)) ne rest)

-- the page at a place of the list is one of it
pub has-at : (p : ℕ) (l : List (ℕ × ℕ)) (i : ℕ) (d : ℕ × ℕ) → i < length l → (slice_index_or l i d).0 ≡ p → has p (candidate_pages l) ≡ true
has-at p [] i d lt e = absurd (omega (arith, lt))
has-at p (x ∷ xs) zero d lt e = rw (eq-eqb p x.0 (sym e)) refl
has-at p (x ∷ xs) (suc i) d lt e = let there = has-at p xs i d (omega (arith, lt)) e in grind (arith, nat_tests, there)

pub pages-end : (l : List (ℕ × ℕ)) (c : ℕ × ℕ) → candidate_pages (l ++ c ∷ []) ≡ candidate_pages l ++ c.0 ∷ []
pages-end [] c = refl
pages-end (x ∷ xs) c = ap (λ (t : List ℕ). x.0 ∷ t) (pages-end xs c)

-- one candidate more, of another page
pub candidates-end : (pages : ℕ) (l : List (ℕ × ℕ)) (c : ℕ × ℕ) → AreCandidates pages l
    → has c.0 (candidate_pages l) ≡ false → IsCandidate pages c → AreCandidates pages (l ++ c ∷ [])
candidates-end pages l c are new is = record {
  apart = subst AreApart (sym (pages-end l c)) (apart-end (candidate_pages l) c.0 are.apart new);
  each = each-both (IsCandidate pages) l (c ∷ []) are.each (is, tt);
}

-- ---- What a visit comes to, by the word that its look found and by the exchange that would mark the page.

-- a version of 56 bits that is not the last is below it
pub fresh-word : (word : ℕ) → version_of word ≢ MAX_VERSION → IsBelowLast word
fresh-word word ne = let l : version_of word ≤ MAX_VERSION = version-within word in omega (arith, l, ne)

-- what a search of the list told of the page
pub told-of : (p : ℕ) (chosen list : List (ℕ × ℕ)) (answer known : Bool) → list ≡ chosen
    → answer ≡ has p (candidate_pages list) → answer ≡ known → has p (candidate_pages chosen) ≡ known
told-of p chosen list answer known same is e = ap (λ l. has p (candidate_pages l)) (sym same) ∙ sym is ∙ e

-- what every visit does: its look is counted, its steps are on the page's state word, and it chooses no page, or this one
pub record IsVisit (chosen : List (ℕ × ℕ)) (p : ℕ) (steps : List Did) (old new : Looks) (list : List (ℕ × ℕ)) : Type 0 where
  pub counted : looks_counted new ≡ suc (looks_counted old)
  pub there : Each (λ d. d.at ≡ places.State p) steps
  pub chooses :
      (list ≡ chosen)
      ⊎ ((word : ℕ) × (has p (candidate_pages chosen) ≡ false) × (state_of word ≡ MARKED) × IsBelowLast word
      × (list ≡ chosen ++ (p, word) ∷ []))

-- with so many counted
visited : (chosen : List (ℕ × ℕ)) (p : ℕ) (steps these : List Did) (old new to : Looks) (list : List (ℕ × ℕ))
    → new ≡ to → looks_counted to ≡ suc (looks_counted old) → steps ≡ these → Each (λ d. d.at ≡ places.State p) these
    → (list ≡ chosen) ⊎ ((word : ℕ) × (has p (candidate_pages chosen) ≡ false) × (state_of word ≡ MARKED)
    × IsBelowLast word × (list ≡ chosen ++ (p, word) ∷ []))
    → IsVisit chosen p steps old new list
visited chosen p steps these old new to list e one are there chooses = record {
  counted = ap looks_counted e ∙ one;
  there = subst (Each (λ (d : Did). d.at ≡ places.State p)) (sym are) there;
  chooses = chooses;
}

pub visit-of : (p : ℕ) (steps : List Did) (chosen list : List (ℕ × ℕ)) (old new : Looks)
    → Visits chosen p steps old new list → IsVisit chosen p steps old new list
visit-of p steps chosen list old new (visits.again word is are e l) =
    visited chosen p steps _ old new _ list e (omega arith) are (refl, tt) (inl l)
visit-of p steps chosen list old new (visits.gone word look state e l) =
    visited chosen p steps _ old new _ list e (omega arith) look.steps_are (refl, tt) (inl l)
visit-of p steps chosen list old new (visits.held word look held e l) =
    visited chosen p steps _ old new _ list e (omega arith) look.steps_are (refl, tt) (inl l)
visit-of p steps chosen list old new (visits.worn word look state last e l) =
    visited chosen p steps _ old new _ list e (omega arith) look.steps_are (refl, tt) (inl l)
visit-of p steps chosen list old new (visits.marked word look state fresh e l) =
    visited chosen p steps _ old new _ list e (omega arith) look.steps_are (refl, (refl, tt)) (inl l)
visit-of p steps chosen list old new (visits.lost word other ne look state fresh e l) =
    visited chosen p steps _ old new _ list e (omega arith) look.steps_are (refl, (refl, tt)) (inl l)
visit-of p steps chosen list old new (visits.found word look state fresh e l) =
    visited chosen p steps _ old new _ list e (omega arith) look.steps_are (refl, tt)
    (inr (word, look.new, state, fresh, l))

pub looks-at : (chosen : List (ℕ × ℕ)) (p word : ℕ) (more : List Did) → has p (candidate_pages chosen) ≡ false
    → LooksAt chosen p word (did_load (places.State p) word ∷ more) more
looks-at chosen p word more new = record { new = new; steps_are = refl }

module _ {X : Type 0} (tied : Start → ℕ → List ℕ → ℕ → List ℕ → Type 0) (p word : ℕ) (v w : View X)
    (t : LookTold tied p None word v w) (chosen : List (ℕ × ℕ)) (old : Looks) where
  looked : OnlyReads (λ q. q ≡ p) (did_load (places.State p) word ∷ []) v w
  looked = look-only (λ q. q ≡ p) tied p word v w refl t

  look-runs : RunsAlone (did_load (places.State p) word ∷ []) [] v w
  look-runs = runs-one (did_load (places.State p) word) _ [] _ v _ w t.brings

  -- the look was all
  pub by-look : (new : Looks) (list : List (ℕ × ℕ)) → Visits chosen p (did_load (places.State p) word ∷ []) old new
      list → IsPageVisited p old chosen new list v w
  by-look new list visits = record {
    steps = did_load (places.State p) word ∷ [];
    visits = visits;
    aside = looked.aside;
    keeps = looked.keeps;
    alone = look-runs;
  }

  -- an exchange followed
  pub by-mark : (found : ℕ) (x : View X) → MarkTold p word found (word_of MARKED (version_of word)) w x
      → (new : Looks) (list : List (ℕ × ℕ))
      → Visits chosen p (did_load (places.State p) word ∷ did_exchange (places.State p) word found
      (word_of MARKED (version_of word)) ∷ []) old new list → IsPageVisited p old chosen new list v x
  by-mark found x m new list visits =
      let touched : ℕ → Type 0 = λ q. q ≡ p in
      let first : List Did = did_load (places.State p) word ∷ [] in
      let did : Did = did_exchange (places.State p) word found (word_of MARKED (version_of word)) in
      let both : OnlyReads touched (first ++ did ∷ []) v x = only-then touched first (did ∷ []) v w x looked
      (mark-only touched p word found (word_of MARKED (version_of word)) w x m) in
      search (
        rules,
        both,
        runs-then first (did ∷ []) [] [] v w x looked.aside.start looked.aside.parts look-runs
            (runs-one did _ [] [] w w x m.brings),
      )

-- ---- a frame

-- what every visit of a frame does: its look is counted; its steps load an owner word and are on the state word of a
-- page that is named; it chooses
-- no page, or one that is named
pub record IsFrameVisit (pages : ℕ) (chosen : List (ℕ × ℕ)) (steps : List Did) (old new : Looks) (list : List (ℕ × ℕ)) : Type 0 where
  pub counted : looks_counted new ≡ suc (looks_counted old)
  pub there : Each (λ d. ((f : ℕ) × (d.at ≡ places.Owner f) × (d.wrote ≡ None))
      ⊎ ((p : ℕ) × (p < pages) × (d.at ≡ places.State p) × FindsOwner steps p)) steps
  pub chooses :
      (list ≡ chosen)
      ⊎ ((p word : ℕ) × (p < pages) × FindsOwner steps p × (has p (candidate_pages chosen) ≡ false)
      × (state_of word ≡ MARKED) × IsBelowLast word
      × (list ≡ chosen ++ (p, word) ∷ []))

-- a page is named by the load of the word that names it
pub named-first : (f p : ℕ) (more : List Did) → FindsOwner (did_load (places.Owner f) (p + 1) ∷ more) p
named-first f p more = (
  f,
  record {
    earlier = [];
    step = did_load (places.Owner f) (p + 1);
    later = more;
    cut = refl;
    gives = (refl, refl);
  },
)

pub frame-visit : (pages f : ℕ) (steps : List Did) (chosen list : List (ℕ × ℕ)) (old new : Looks)
    → VisitsFrame pages chosen f steps old new list → IsFrameVisit pages chosen steps old new list
frame-visit pages f steps chosen list old new (frames.empty are e l) = record {
  counted = ap looks_counted e ∙ omega arith;
  there = subst (Each _) (sym are) (inl (f, refl, refl), tt);
  chooses = inl l;
}
frame-visit pages f steps chosen list old new (frames.named p more page are visits) =
    let v : IsVisit chosen p more old new list = visit-of p more chosen list old new visits in
    let is : FindsOwner steps p = subst (λ ds. FindsOwner ds p) (sym are) (named-first f p more) in
    record {
      counted = v.counted;
      there = subst (Each (λ (d : Did). ((g : ℕ) × (d.at ≡ places.Owner g) × (d.wrote ≡ None))
          ⊎ ((q : ℕ) × (q < pages) × (d.at ≡ places.State q) × FindsOwner steps q))) (sym are)
          (inl (f, refl, refl), each-map _ _ (λ (d : Did) at. inr (p, page, at, is)) more v.there);
      chooses = ⊎_elim (λ same. inl same) (λ m. inr (p, m.0, page, is, m.1, m.2, m.3, m.4)) v.chooses;
    }

module _ {X : Type 0} (f found : ℕ) (v w : View X) (t : OwnerLoadTold f found v w) where
  abbrev owner-did : Did
  owner-did = did_load (places.Owner f) found

  owner-only : (touched : ℕ → Type 0) → OnlyReads touched (owner-did ∷ []) v w
  owner-only touched = only-of (others-still t.brings) (still-own t.brings) (still-holds t.brings)
      (still-knows t.brings) (alone-silent owner-did None [] v v w t.brings refl)

  owner-runs : RunsAlone (owner-did ∷ []) [] v w
  owner-runs = runs-one owner-did _ [] [] v v w t.brings

  -- the frame is nobody's
  pub by-none : found ≡ 0 → (chosen : List (ℕ × ℕ)) (old : Looks)
      → IsFrameVisited f old chosen (record old { gone = old.gone + 1 }) chosen v w
  by-none none chosen old =
      let steps : List Did = owner-did ∷ [] in
      let visits : VisitsFrame v.start.pages chosen f steps old (record old { gone = old.gone + 1 }) chosen =
      frames.empty (ap (λ n. did_load (places.Owner f) n ∷ []) none) refl refl in
      search (rules, visits, owner-only (FindsOwner steps), owner-runs)

  -- the page that it names was looked at
  pub by-page : (p : ℕ) → found ≡ p + 1 → (chosen list : List (ℕ × ℕ)) (old new : Looks) (x : View X)
      → IsPageVisited p old chosen new list w x → IsFrameVisited f old chosen new list v x
  by-page p is chosen list old new x s =
      let steps : List Did = owner-did ∷ s.steps in
      let named : FindsOwner steps p = subst (λ n. FindsOwner (did_load (places.Owner f) n ∷ s.steps) p) (sym is)
      (named-first f p s.steps) in
      let own : OnlyReads (FindsOwner steps) steps v x = only-then (FindsOwner steps) (owner-did ∷ []) s.steps v w x
      (owner-only (FindsOwner steps))
      record {
        aside = aside-within (λ q. q ≡ p) (FindsOwner steps) s.steps w x (λ q e. subst (FindsOwner steps) (sym e) named) s.aside;
        keeps = s.keeps;
      } in
      let inside : found ≤ v.start.pages = t.inside in
      let visits : VisitsFrame v.start.pages chosen f steps old new list =
      frames.named p s.steps (omega (arith, inside, is)) (ap (λ n. did_load (places.Owner f) n ∷ s.steps) is)
      s.visits in
      search (
        rules,
        visits,
        own,
        runs-then (owner-did ∷ []) s.steps [] [] v w x (owner-only (λ _. ⊥)).aside.start
            (owner-only (λ _. ⊥)).aside.parts owner-runs s.alone,
      )

-- ---- the filter

-- one more is noted
pub covers-more : (masks masks' : List ℕ) (list : List (ℕ × ℕ)) (c : ℕ × ℕ)
    → has_free_bit (at 0 masks') ≡ upd (has_free_bit (at 0 masks)) (c.0 % 1024) true → HoldsChosen masks list
    → HoldsChosen masks' (list ++ c ∷ [])
covers-more masks masks' list c noted covers p e =
    let both : (has p (candidate_pages list) || (eqb p c.0 || false)) ≡ true =
    sym (has-both p (candidate_pages list) (c.0 ∷ [])) ∙ ap (has p) (sym (pages-end list c)) ∙ e in
    ap (λ g. g (p % 1024)) noted
    ∙ ⊎_elim
    (λ (same : p % 1024 ≡ c.0 % 1024). ap (upd (has_free_bit (at 0 masks)) (c.0 % 1024) true) same
    ∙ upd-same (has_free_bit (at 0 masks)) (c.0 % 1024) true)
    (λ (ne : p % 1024 ≢ c.0 % 1024).
    let other : p ≢ c.0 = λ is. ne (ap (λ n. n % 1024) is) in
    let old : has p (candidate_pages list) ≡ true = grind (arith, nat_tests, both, other) in
    upd-other (has_free_bit (at 0 masks)) (c.0 % 1024) true (p % 1024) ne ∙ covers p old)
    (cases_eq (p % 1024) (c.0 % 1024))
