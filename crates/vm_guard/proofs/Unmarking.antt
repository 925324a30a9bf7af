-- The mark of a page is taken away, or was not there: one exchange, or no step. It leaves the view, and the word that
-- it leaves is none that
-- a later look denies a call by; and which steps leave at most the page's word without its mark.
use Rattle.vm_event.proofs.PageFacts.{none-some}
use Rattle.vm_guard.proofs.Prelude.{[], ap, AreQuiet, AreUnmarking, arith, At, Begins, cases_eq, cond-false}
use Rattle.vm_guard.proofs.Prelude.{cond-true, Did, did_exchange, did_load, Each}
use Rattle.vm_guard.specs.Quiet.{IsUnmark}
use Rattle.vm_guard.proofs.Prelude.{each-both, eq-eqb, eqb, Gives, inl, inr, IsQuiet, IsSaw, IsUnmarked, List, LOCKED}
use Rattle.vm_guard.proofs.Prelude.{MARKED, MarkTold, ne_eqb, None, OnlyUnmarks, refl, rules, Some, some-same}
use Rattle.vm_guard.proofs.Prelude.{state_of, still-loads, still-seat, subst, sym, UNLOCKED, version-within}
use Rattle.vm_guard.proofs.Prelude.{version_of, WordPlace, View, WhyAgain, word-state, word-version, word_of, ℕ}
use Rattle.vm_guard.proofs.Prelude.{⊎_elim, ◌++◌, ◌∙◌, ◌∷◌, ◌≡◌, ◌≢◌, ◌⊎◌}
use Rattle.vm_guard.proofs.QuietSteps.{quiet-none, still-quiet}

-- an exchange leaves no word but the new one
exchange-left : (at : WordPlace) (expects found new x : ℕ) → (did_exchange at expects found new).wrote ≡ Some x → new ≡ x
exchange-left at expects found new x e =
    ⊎_elim
    (λ same. some-same new x (sym (cond-true (eqb found expects) (Some new) None (eq-eqb found expects same)) ∙ e))
    (λ apart. absurd (none-some x (sym (cond-false (eqb found expects) (Some new) None (ne_eqb found expects apart)) ∙ e)))
    (cases_eq found expects)

-- the unlocked word at one version is neither a locked word nor one of another version
unlocked-other : (first seen : ℕ) → (version_of first ≢ version_of seen) ⊎ (state_of seen ≡ LOCKED)
    → word_of UNLOCKED (version_of first) ≢ seen
unlocked-other first seen why e =
    ⊎_elim
    (λ ne. ne (sym (word-version UNLOCKED (version_of first) (version-within first)) ∙ ap version_of e))
    (λ locked. let none : 0 ≡ state_of seen = sym (word-state UNLOCKED (version_of first) (version-within first)) ∙ ap state_of e in
    let full : state_of seen ≡ 253 = locked in omega (arith, none, full))
    why

-- so the steps that take the mark away leave a word that is seen later with another version, or locked, to those that come after
pub unmarking-quiet : (p first seen : ℕ) (done more : List Did) → AreUnmarking p first done
    → (version_of first ≢ version_of seen) ⊎ (state_of seen ≡ LOCKED) → AreQuiet (WordPlace.State p) seen more
    → AreQuiet (WordPlace.State p) seen (done ++ more)
unmarking-quiet p first seen done more steps why quiet =
    ⊎_elim
    (λ n. subst (λ (d : List Did). AreQuiet (WordPlace.State p) seen (d ++ more)) (sym n.1) quiet)
    (λ y. let found : ℕ = y.1.0 in
    let new : ℕ = word_of UNLOCKED (version_of first) in
    subst (λ (d : List Did). AreQuiet (WordPlace.State p) seen (d ++ more)) (sym y.1.1) (
      λ here. (
        (λ e. unlocked-other first seen why (exchange-left (WordPlace.State p) first found new seen e)),
        λ none.
            absurd (none-some found (sym none)),
      ),
      quiet,
    ))
    steps

-- steps that wrote no such word, and stored no next version, left no such word
pub quiet-foreign : (at : WordPlace) (seen : ℕ) (done : List Did) → AreQuiet at seen done
    → Each (λ (d : Did). d.at ≡ at → d.wrote ≢ Some seen) done
quiet-foreign at seen [] quiet = tt
quiet-foreign at seen (d ∷ ds) quiet = ((λ here. (quiet.0 here).0), quiet-foreign at seen ds quiet.1)

-- one step that gave the word seen, which tells why a call may be tried again
pub one-saw : (kept : ℕ → Type 0) (instead : ℕ → ℕ → Type 0) (p first seen : ℕ) (d : Did)
    → Gives d (WordPlace.State p) seen → Begins kept instead (WordPlace.State p) first seen d [] []
    → WhyAgain (At.Page p) first seen d
    → IsSaw kept instead (d ∷ []) (record { at = At.Page p; first = first; seen = seen })
one-saw kept instead p first seen d gives begins why = record {
  earlier = [];
  last = d;
  later = [];
  cut = refl;
  gives = gives;
  since = [];
  begins = begins;
  quiet = tt;
  foreign = tt;
  why = why;
}

-- ---- steps that leave no word but where they take a mark away

-- a load leaves none
pub load-unmarks : (p : ℕ) (at : WordPlace) (found : ℕ) → ((did_load at found).wrote ≡ None)
    ⊎ (((did_load at found).at ≡ WordPlace.State p) × IsUnmark (did_load at found))
load-unmarks p at found = inl refl

-- nor does an exchange that was lost
pub lost-unmarks : (p expects found new : ℕ) → found ≢ expects → OnlyUnmarks p (did_exchange (WordPlace.State p) expects found new ∷ [])
lost-unmarks p expects found new ne = (inl (cond-false (eqb found expects) (Some new) None (ne_eqb found expects ne)), tt)

pub unmarks-both : (p : ℕ) (a b : List Did) → OnlyUnmarks p a → OnlyUnmarks p b → OnlyUnmarks p (a ++ b)
unmarks-both p = each-both (λ d. (d.wrote ≡ None) ⊎ ((d.at ≡ WordPlace.State p) × IsUnmark d))

-- the steps that take a mark away
pub unmarking-unmarks : (p first : ℕ) (done : List Did) → AreUnmarking p first done → OnlyUnmarks p done
unmarking-unmarks p first done steps =
    ⊎_elim
    (λ n. subst (λ (d : List Did). OnlyUnmarks p d) (sym n.1) tt)
    (λ y. subst (λ (d : List Did). OnlyUnmarks p d) (sym y.1.1) (
      ⊎_elim
          (λ same. inr (refl, taken y.1.0 y.0 same))
          (λ apart. inl (cond-false (eqb y.1.0 first) (Some (word_of UNLOCKED (version_of first))) None (ne_eqb y.1.0 first apart)))
          (cases_eq y.1.0 first),
      tt,
    ))
    steps
  where
    -- the exchange found the word that it expects
    taken : (found : ℕ) → state_of first ≡ MARKED → found ≡ first
        → IsUnmark (did_exchange (WordPlace.State p) first found (word_of UNLOCKED (version_of first)))
    taken found marked same = record {
      page = p;
      word = first;
      at = refl;
      found = ap (λ (n : ℕ). Some n) same;
      marked = marked;
      wrote = cond-true (eqb found first) (Some (word_of UNLOCKED (version_of first))) None (eq-eqb found first same);
    }

module _ {X : Type 0} where
  -- the exchange, whatever it found
  pub unmarked : (p word found : ℕ) (v w : View X) → state_of word ≡ MARKED
      → MarkTold p word found (word_of UNLOCKED (version_of word)) v w → IsUnmarked p word v w
  unmarked p word found v w is t =
      let quiet : IsQuiet p (did_exchange (WordPlace.State p) word found (word_of UNLOCKED (version_of word)) ∷ []) v
      w = still-quiet t.brings in
      let clears : AreUnmarking p word
      (did_exchange (WordPlace.State p) word found (word_of UNLOCKED (version_of word)) ∷ []) =
      inr (is, (found, refl)) in
      search (rules, quiet, ap (λ s. s.reading) (still-seat t.brings p), still-loads t.brings p, clears)

  -- no step
  pub not-marked : (p word : ℕ) (v : View X) → state_of word ≢ MARKED → IsUnmarked p word v v
  not-marked p word v other = search (rules, quiet-none p v, other)
