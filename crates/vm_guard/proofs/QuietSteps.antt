-- What each kind of step leaves of a view that it does not speak of, in the words of the guards, and that this holds
-- of several steps in a row.
use Rattle.vm_rule.specs.Prelude.{entries_where}
use Rattle.vm_step.proofs.{Asides.numbers-then, Evidenced.lost-view, steps.Leaving.own-self, steps.Share.where-lost}
use Rattle.vm_guard.proofs.Prelude.{[], alone-then, ap, append_assoc, Brings, Did, did_exchange, did_load, entries_of}
use Rattle.vm_guard.proofs.Prelude.{holds-still, holds-then, HoldsPage, IsElsewhere, IsLocking, IsQuiet, IsSteady}
use Rattle.vm_guard.proofs.Prelude.{knows-then, KnowsAsBefore, last_of, LeavesOthers, LeavesOwn, left_at, List}
use Rattle.vm_guard.proofs.Prelude.{load-holds, load-knows, load-others, load-own, LoadTold, LOCKED, locked_view}
use Rattle.vm_guard.proofs.Prelude.{LockTold, look-holds, look-others, look-own, look-says, looked-knows, LookTold}
use Rattle.vm_guard.proofs.Prelude.{lost-brings, ne_eqb, None, one_share_more, Option, others-none, others-still}
use Rattle.vm_guard.proofs.Prelude.{ReadIs, WordPlace, reads-then, refl, Release, rules, runs-then, seat_of}
use Rattle.vm_guard.proofs.Prelude.{shared_view, ShareTold, Start, starts-then, state_of, stays-alone, StaysAlone}
use Rattle.vm_guard.proofs.Prelude.{still-holds, still-knows, still-locking, still-own, sym, Tie, tload-holds}
use Rattle.vm_guard.proofs.Prelude.{tload-knows, tload-others, tload-own, subst, TranslationTold, version_of, View}
use Rattle.vm_guard.proofs.Prelude.{where_same, word_of, ℕ, ◌++◌, ◌∙◌, ◌∷◌, ◌≡◌, ◌≢◌}

-- the other one, where the read does not stay
pub where-other : {A : Type 0} (left : ReadIs) (x y : A) → left ≢ ReadIs.Same → where_same left x y ≡ y
where-other ReadIs.Same x y ne = absurd (ne refl)
where-other left x y ne = refl

module _ {X : Type 0} where
  -- ---- one after the other

  pub steady-then : (a b : List Did) (c d : List Release) (u v w : View X) → IsSteady a c u v → IsSteady b d v w
      → IsSteady (a ++ b) (c ++ d) u w
  steady-then a b c d u v w f g =
      let ties : (more : List Tie) × (w.ties ≡ more ++ u.ties) = (
        g.ties.0 ++ f.ties.0,
        g.ties.1 ∙ ap (λ (t : List Tie). g.ties.0 ++ t) f.ties.1
            ∙ sym (append_assoc g.ties.0 f.ties.0 u.ties),
      ) in
      search (
        rules,
        append_assoc u.log a b,
        starts-then u.seen v.seen w.seen f.seen g.seen,
        starts-then u.releases
            v.releases w.releases f.releases g.releases,
        ties,
        runs-then a b c d u v w f.start f.parts f.alone g.alone,
      )

  pub quiet-then : (p : ℕ) (a b : List Did) (u v w : View X) → IsQuiet p a u v → IsQuiet p b v w → IsQuiet p (a ++ b) u w
  quiet-then p a b u v w f g =
      let holds = λ (q : ℕ). holds-then u v w q (f.holds q) (g.holds q) in
      let knows = λ (q : ℕ) (l : IsLocking (seat_of u q)). knows-then u v w q (f.knows q l)
      (g.knows q (still-locking u v q (f.holds q) l)) in
      let others = λ (q : ℕ) (ne : q ≢ p). reads-then u v w q (f.others q ne) (g.others q ne) in
      search (
        rules,
        steady-then a b [] [] u v w f.steady g.steady,
        numbers-then u v w f.steady.start f.numbers
            g.numbers,
        holds,
        knows,
        others,
        alone-then u v w f.steady.parts f.alone g.alone,
      )

  pub elsewhere-then : (p : ℕ) (a b : List Did) {c d : List Release} (u v w : View X) → IsElsewhere p a c u v
      → IsElsewhere p b d v w → IsElsewhere p (a ++ b) (c ++ d) u w
  elsewhere-then p a b {c = c} {d = d} u v w f g =
      let holds = λ (q : ℕ) (ne : q ≢ p). holds-then u v w q (f.holds q ne) (g.holds q ne) in
      let knows = λ (q : ℕ) (ne : q ≢ p) (l : IsLocking (seat_of u q)). knows-then u v w q (f.knows q ne l)
      (g.knows q ne (still-locking u v q (f.holds q ne) l)) in
      search (
        rules,
        steady-then a b c d u v w f.steady g.steady,
        holds,
        knows,
        (λ (q : ℕ) (ne : q ≢ p). reads-then u v w q (f.others q ne) (g.others q ne)),
      )

  pub quiet-elsewhere : (p : ℕ) (done : List Did) (v w : View X) → IsQuiet p done v w → IsElsewhere p done [] v w
  quiet-elsewhere p done v w f = record { steady = f.steady; holds = λ q ne. f.holds q; knows = λ q ne. f.knows q; others = f.others }

  -- ---- by what steps leave of other pages

  pub steady-of : {touched : ℕ → Type 0} {done : List Did} {own : List Release} {v w : View X}
      → LeavesOthers touched done own v w → IsSteady done own v w
  steady-of f = search

  pub elsewhere-of : {p : ℕ} {done : List Did} {own : List Release} {v w : View X}
      → LeavesOthers (λ q. q ≡ p) done own v w → IsElsewhere p done own v w
  elsewhere-of f = record {
    steady = steady-of f;
    holds = λ q ne. holds-still q (f.seats q ne);
    knows = λ q ne l. record { held = f.held q ne; draft = f.drafts q ne; last = f.last q ne l };
    others = λ q ne. record { reading = ap (λ s. s.reading) (f.seats q ne); loads = f.loads q ne };
  }

  -- a pass that is alone finds the last words as they were, where no page is released
  pub alone-of : {touched : ℕ → Type 0} {done : List Did} {v w : View X} → LeavesOthers touched done [] v w → StaysAlone v w
  alone-of {done = done} {v = v} {w = w} f = stays-alone done v w f.start f.runs

  quiet-of : {p : ℕ} {done : List Did} {v w : View X} → LeavesOthers (λ q. q ≡ p) done [] v w → LeavesOwn v w
      → ((q : ℕ) → HoldsPage v w q) → ((q : ℕ) → IsLocking (seat_of v q) → KnowsAsBefore v w q) → IsQuiet p done v w
  quiet-of f o holds knows = record {
    steady = steady-of f;
    mine = o.mine;
    group = o.group;
    numbers = o.numbers;
    holds = holds;
    knows = knows;
    others = (elsewhere-of f).others;
    alone = alone-of f;
  }

  -- no step at all
  pub quiet-none : (p : ℕ) (v : View X) → IsQuiet p [] v v
  quiet-none p v = quiet-of (others-none v) (own-self v) (λ q. holds-still q refl) (λ q l. record {
    held = refl;
    draft = refl;
    last = refl;
  })

  -- ---- each kind of step

  -- a look that made no entry
  pub look-unsaid : (tied : Start → ℕ → List ℕ → ℕ → List ℕ → Type 0) (p : ℕ) (said : Option X) (found : ℕ)
      (v w : View X) → LookTold tied p said found v w
      → where_same (left_at found (seat_of v p).reading) (entries_of v said) [] ≡ []
      → IsQuiet p (did_load (WordPlace.State p) found ∷ []) v w
  look-unsaid tied p said found v w t none = quiet-of (look-others t (λ q. q ≡ p) refl) (look-says t none) (look-holds t) (looked-knows t)

  -- a look without a word to say
  pub look-quiet : (tied : Start → ℕ → List ℕ → ℕ → List ℕ → Type 0) (p found : ℕ) (v w : View X)
      → LookTold tied p None found v w → IsQuiet p (did_load (WordPlace.State p) found ∷ []) v w
  look-quiet tied p found v w t = quiet-of (look-others t (λ q. q ≡ p) refl) (look-own t) (look-holds t) (looked-knows t)

  -- a load of a translation word
  pub translation-quiet : (p found : ℕ) (v w : View X) → TranslationTold p found v w
      → IsQuiet p (did_load (WordPlace.Translation p) found ∷ []) v w
  translation-quiet p found v w t = quiet-of (tload-others t (λ q. q ≡ p) refl) (tload-own t) (tload-holds t) (tload-knows t)

  -- a load of a word of a frame
  pub load-quiet : (p f i found : ℕ) (v w : View X) → LoadTold p f i found v w → IsQuiet p (did_load (WordPlace.Content f i) found ∷ []) v w
  load-quiet p f i found v w t = quiet-of (load-others t (λ q. q ≡ p) refl) (load-own t) (load-holds t) (load-knows t)

  -- a step that changes nothing
  pub still-quiet : {p : ℕ} {did : Did} {v w : View X} → Brings did [] [] v v w → IsQuiet p (did ∷ []) v w
  still-quiet b = quiet-of (others-still b) (still-own b) (still-holds b) (still-knows b)

  -- a lock that was lost
  pub lock-lost : (tied : Start → ℕ → List ℕ → ℕ → List ℕ → Type 0) (p expects found : ℕ) (v w : View X)
      → found ≢ expects → LockTold tied p expects found v w
      → IsQuiet p (did_exchange (WordPlace.State p) expects found (word_of LOCKED (version_of expects)) ∷ []) v w
  lock-lost tied p expects found v w ne t = still-quiet (lost-brings (locked_view p t.held (last_of w p).words v) ne t.brings)

  pub share-lost : (tied : Start → ℕ → List ℕ → ℕ → List ℕ → Type 0) {said : Option X} (p expects found : ℕ)
      (v w : View X) → found ≢ expects → ShareTold tied p expects said found v w
      → IsQuiet p (did_exchange (WordPlace.State p) expects found
      (word_of (one_share_more (state_of expects)) (version_of expects)) ∷ []) v w
  share-lost tied {said = said} p expects found v w ne t =
      still-quiet
      (subst (λ es. Brings (did_exchange (WordPlace.State p) expects found
      (word_of (one_share_more (state_of expects)) (version_of expects))) [] es v v w)
      (ap (entries_where v said) (ne_eqb found expects ne) ∙ where-lost v said)
      (lost-view _ expects found v (shared_view p t.held said v) w ne t.brings))
