-- Calls that say nothing and change no lock, one after another; `OnlyReads` is what the steps of such calls leave
-- that change nothing of the view but
-- open reads. The files of the kinds of steps say which do.
use Rattle.vm_step.proofs.Prelude.{[], after_releases, ap, append-none, append_assoc, BringsWith, cases_eq, Did}
use Rattle.vm_step.proofs.Prelude.{Entry, eq-eqb, first_history, History, HoldsPage, if◌then◌else◌, inl, inr}
use Rattle.vm_step.proofs.Prelude.{IsAsideOf, IsLocking, IsWhole, KeepsFrames, KeepsNumbers, KnowsAsBefore, last_in}
use Rattle.vm_step.proofs.Prelude.{last_of, List, ne_eqb, None, Option, Origin, pushed, ReadsAsBefore, refl, Release}
use Rattle.vm_step.proofs.Prelude.{rules, seat_of, StartsWith, StaysAlone, Stored, subst, sym, Tie, times, View, ℕ}
use Rattle.vm_step.proofs.Prelude.{⊎_elim, ◌++◌, ◌+◌, ◌==◌, ◌∙◌, ◌∷◌, ◌≡◌, ◌≤◌}

-- what begins with what begins with it
pub starts-then : {A : Type 0} (k l m : List A) → StartsWith l k → StartsWith m l → StartsWith m k
starts-then k l m a b = (a.0 ++ b.0, b.1 ∙ ap (λ (t : List _). t ++ b.0) a.1 ∙ append_assoc k a.0 b.0)

-- a release of page p with its last words leaves the words of every page
after-same : (p q : ℕ) (h : History) (rs : List Release) (r : Release) → r.page ≡ p
    → (p ≡ q → r.words ≡ (after_releases q h rs).last.words)
    → (after_releases q h (rs ++ r ∷ [])).last.words ≡ (after_releases q h rs).last.words
after-same p q h [] r page same =
    ⊎_elim
    (λ e. rw (eq-eqb r.page q (page ∙ e)) (same e))
    (λ ne. rw (ne_eqb r.page q (λ e. ne (sym page ∙ e))) refl)
    (cases_eq p q)
after-same p q h (x ∷ xs) r page same = after-same p q (if x.page == q then pushed h x else h) xs r page same

module _ {X : Type 0} where
  -- ---- one after the other

  pub alone-self : (v : View X) → StaysAlone v v
  alone-self v = record { current = λ e. e; words = λ _ _ q. refl }

  -- the parts of a pass that keeps its parts are all parts where they were
  pub whole-then : (u v : View X) → (v.used ≡ u.used) × (v.fresh ≡ u.fresh) → IsWhole u → IsWhole v
  whole-then u v parts all k l = subst (λ ns. 1 ≤ times k ns + times k v.fresh) (sym parts.0)
      (subst (λ ns. 1 ≤ times k u.used + times k ns) (sym parts.1) (all k l))

  pub alone-then : (u v w : View X) → (v.used ≡ u.used) × (v.fresh ≡ u.fresh) → StaysAlone u v → StaysAlone v w
      → StaysAlone u w
  alone-then u v w parts f g = record {
    current = λ e. g.current (f.current e);
    words = λ all e q. g.words (whole-then u v parts all) (f.current e) q ∙ f.words all e q;
  }

  -- a step of its own that releases no page, or one with the words that it had
  pub alone-step : (did : Did) (block : Option (ℕ × Stored)) (own : List Release) (entries : List (Entry X))
      (v inner w : View X) → BringsWith did block own entries v inner w → inner.start ≡ v.start
      → ((q : ℕ) → (last_in v.start (v.releases ++ own) q).words ≡ (last_of v q).words) → StaysAlone v w
  alone-step did block own entries v inner w b same kept = record {
    current = λ _. ap (λ (x : View X). x.current) b.view;
    words = λ all e q.
        ap (λ (x : View X). (last_in x.start x.releases q).words) b.view
        ∙ (λ i. (last_in (same i) ((v.releases ++ (b.alone all e).0 i) ++ own) q).words)
        ∙ ap (λ (t : List Release). (last_in v.start (t ++ own) q).words) (append-none v.releases)
        ∙ kept q;
  }

  pub alone-silent : (did : Did) (block : Option (ℕ × Stored)) (entries : List (Entry X)) (v inner w : View X)
      → BringsWith did block [] entries v inner w → inner.start ≡ v.start → StaysAlone v w
  alone-silent did block entries v inner w b same =
      alone-step did block [] entries v inner w b same
      (λ q. ap (λ (t : List Release). (last_in v.start t q).words) (append-none v.releases))

  pub alone-release : (did : Did) (p version : ℕ) (words : List ℕ) (entries : List (Entry X)) (v inner w : View X)
      → BringsWith did None (record {
        page = p;
        version = version;
        words = words;
      } ∷ []) entries v inner w → inner.start ≡ v.start
      → words ≡ (last_of v p).words → StaysAlone v w
  alone-release did p version words entries v inner w b same kept =
      alone-step did None (record { page = p; version = version; words = words } ∷ []) entries v inner w b same
      (λ q. after-same p q (first_history v.start q) v.releases (record {
        page = p;
        version = version;
        words = words;
      }) refl (λ e. kept ∙ ap (λ k. (last_of v k).words) e))

  -- a page that the pass has locked is locked afterwards
  pub still-locking : (v w : View X) (q : ℕ) → HoldsPage v w q → IsLocking (seat_of v q) → IsLocking (seat_of w q)
  still-locking v w q h l = ⊎_elim (λ e. inl (h.exclusive ∙ e)) (λ s. inr (subst (λ n. 1 ≤ n) (sym h.shares) s)) l

  pub holds-then : (u v w : View X) (q : ℕ) → HoldsPage u v q → HoldsPage v w q → HoldsPage u w q
  holds-then u v w q f g = record { shares = g.shares ∙ f.shares; exclusive = g.exclusive ∙ f.exclusive; writing = g.writing ∙ f.writing }

  pub knows-then : (u v w : View X) (q : ℕ) → KnowsAsBefore u v q → KnowsAsBefore v w q → KnowsAsBefore u w q
  knows-then u v w q f g = record { held = g.held ∙ f.held; draft = g.draft ∙ f.draft; last = g.last ∙ f.last }

  pub reads-then : (u v w : View X) (q : ℕ) → ReadsAsBefore u v q → ReadsAsBefore v w q → ReadsAsBefore u w q
  reads-then u v w q f g = record { reading = g.reading ∙ f.reading; loads = g.loads ∙ f.loads }

  pub numbers-self : (v : View X) → KeepsNumbers v v
  numbers-self v t = (refl, refl)

  pub numbers-then : (u v w : View X) → v.start ≡ u.start → KeepsNumbers u v → KeepsNumbers v w → KeepsNumbers u w
  numbers-then u v w start f g t = let more = g (ap (λ (o : Origin). o.tells) start ∙ t) in (more.0 ∙ (f t).0, more.1 ∙ (f t).1)

  pub aside-then : (touched : ℕ → Type 0) (a b : List Did) (u v w : View X) → IsAsideOf touched a u v
      → IsAsideOf touched b v w → IsAsideOf touched (a ++ b) u w
  aside-then touched a b u v w f g =
      let log : w.log ≡ u.log ++ (a ++ b) = g.log ∙ ap (λ (t : List Did). t ++ b) f.log ∙ append_assoc u.log a b in
      let ties : (more : List Tie) × (w.ties ≡ more ++ u.ties) = (
        g.ties.0 ++ f.ties.0,
        g.ties.1 ∙ ap (λ (t : List Tie). g.ties.0 ++ t) f.ties.1
            ∙ sym (append_assoc g.ties.0 f.ties.0 u.ties),
      ) in
      let knows : (q : ℕ) → IsLocking (seat_of u q) → KnowsAsBefore u w q = λ q l. knows-then u v w q (f.knows q l)
      (g.knows q (still-locking u v q (f.holds q) l)) in
      let others : (q : ℕ) → (touched q → ⊥) → ReadsAsBefore u w q = λ q ne. reads-then u v w q (f.others q ne) (g.others q ne) in
      search (
        rules,
        log,
        starts-then u.seen v.seen w.seen f.seen g.seen,
        starts-then u.releases v.releases w.releases
            f.releases g.releases,
        ties,
        numbers-then u v w f.start f.numbers g.numbers,
        holds-then u v w,
        knows,
        others,
        alone-then u v w f.parts f.alone g.alone,
      )

  -- what leaves all but the open reads of some pages leaves all but those of more pages
  pub aside-within : (touched more : ℕ → Type 0) (done : List Did) (v w : View X) → ((q : ℕ) → touched q → more q)
      → IsAsideOf touched done v w → IsAsideOf more done v w
  aside-within touched more done v w within f =
      let others : (q : ℕ) → (more q → ⊥) → ReadsAsBefore v w q = λ q ne. f.others q (λ t. ne (within q t)) in
      search (rules, f, others)

  pub keeps-self : (v : View X) → KeepsFrames v v
  keeps-self v = record { frames = refl; contents = refl; notes = refl }

  pub keeps-then : (u v w : View X) → KeepsFrames u v → KeepsFrames v w → KeepsFrames u w
  keeps-then u v w f g = record { frames = g.frames ∙ f.frames; contents = g.contents ∙ f.contents; notes = g.notes ∙ f.notes }

  -- the steps changed open reads alone, at most those of the pages touched
  pub record OnlyReads (touched : ℕ → Type 0) (done : List Did) (v w : View X) : Type 0 where
    pub aside : IsAsideOf touched done v w
    pub keeps : KeepsFrames v w

  pub only-then : (touched : ℕ → Type 0) (a b : List Did) (u v w : View X) → OnlyReads touched a u v
      → OnlyReads touched b v w → OnlyReads touched (a ++ b) u w
  only-then touched a b u v w f g =
      record { aside = aside-then touched a b u v w f.aside g.aside; keeps = keeps-then u v w f.keeps g.keeps }
