-- What calls leave of the page numbers of a pass, one after the other: it gains none, but for those of pages at the last version.
use Rattle.std.proofs.Common.{[], ⊎_elim, ◌&&◌, ◌++◌, ◌||◌, ◌∙◌, ◌∷◌, ◌≡◌, ◌≢◌, ap, append_assoc, Bool, eqb, false}
use Rattle.std.proofs.Common.{if◌then◌else◌, inl, inr, List, refl, subst, sym, true, true≢false, ℕ}
use Rattle.std.proofs.lemmas.Bool.{cases_eq, cond-false, eq-eqb, ne_eqb, or_left, or_right}
use Rattle.vm_page.specs.Pages.{all_zero}
use Rattle.vm_owner.proofs.NumberLemmas.{has-without_other, has-without_same}
use Rattle.vm_rule.specs.Prelude.{draft_of, has, last_of, StartsWith, without}
use Rattle.vm_rule.specs.Releases.{freed_by, numbers_left}
use Rattle.vm_step.specs.Prelude.{Did, IsWorn, KeepsNumbers, Origin, View}
use Rattle.vm_tree_read.specs.from_vm_guard.Guards.{IsReleased}
use Rattle.vm_tree_draft.specs.PageNumbers.{GainsNone, GainsWorn, HasFoundLast}

-- ---- lists of numbers

without-has : (p q : ℕ) (l : List ℕ) → has q (without p l) ≡ true → has q l ≡ true
without-has p q l e =
    ⊎_elim
    (λ (same : q ≡ p). absurd (true≢false (sym e ∙ ap (λ n. has n (without p l)) same ∙ has-without_same p l)))
    (λ (ne : q ≢ p). sym (has-without_other p q l ne) ∙ e)
    (cases_eq q p)

either-has : (b : Bool) (l m : List ℕ) (q : ℕ) → (has q m ≡ true → has q l ≡ true) → has q (if b then l else m) ≡ true → has q l ≡ true
either-has true l m q less e = e
either-has false l m q less e = less e

same-not : (z : Bool) → (if z then false else z) ≡ false
same-not true = refl
same-not false = refl

used-not : (z d : Bool) → d ≡ false → (if z then false else d) ≡ false
used-not true d none = refl
used-not false d none = none

module _ {X : Type 0} (v : View X) where
  -- none of these pages is freed, where none has a draft of zeros
  pub freed-used : (qs : List ℕ) → ((q : ℕ) → has q qs ≡ true → all_zero (draft_of v q) ≡ false) → freed_by v qs ≡ []
  freed-used [] used = refl
  freed-used (q ∷ qs) used =
      cond-false _ _ _ (used-not (all_zero (last_of v q).words) (all_zero (draft_of v q))
      (used q (or_left (eqb q q) (has q qs) (eq-eqb q q refl))))
      ∙ freed-used qs (λ p e. used p (or_right (eqb p q) (has p qs) e))

  -- nor is one that has the words that it had
  freed-same : (q : ℕ) → draft_of v q ≡ (last_of v q).words → freed_by v (q ∷ []) ≡ []
  freed-same q same = cond-false _ _ _
      (ap (λ (l : List ℕ). if all_zero (last_of v q).words then false else all_zero l) same
      ∙ same-not (all_zero (last_of v q).words))

module _ {X : Type 0} where
  -- the number of a page that is given up may go, and none comes
  left-has : (p q : ℕ) (v : View X) → has q (numbers_left p v) ≡ true → has q v.numbers ≡ true
  left-has p q v e = either-has (v.start.tells && all_zero (draft_of v p)) v.numbers (without p v.numbers) q (without-has p q v.numbers) e

  -- ---- calls in a row

  pub gains-kept : (v w : View X) → KeepsNumbers v w → GainsNone v w
  gains-kept v w k tells = ((λ q e. ap (has q) (sym (k tells).0) ∙ e), (k tells).1)

  pub gains-then : (u v w : View X) → v.start ≡ u.start → GainsNone u v → GainsNone v w → GainsNone u w
  gains-then u v w start f g tells =
      let a = f tells in
      let b = g (ap (λ (o : Origin). o.tells) start ∙ tells) in
      ((λ q e. a.0 q (b.0 q e)), b.1 ∙ a.1)

  pub gains-worn : (v w : View X) → GainsNone v w → GainsWorn v w
  gains-worn v w g tells = ((λ q e. inl ((g tells).0 q e)), (g tells).1)

  pub worn-kept : (v w : View X) → KeepsNumbers v w → GainsWorn v w
  worn-kept v w k = gains-worn v w (gains-kept v w k)

  found-later : (p : ℕ) (u v w : View X) → StartsWith v.log u.log → HasFoundLast p v w → HasFoundLast p u w
  found-later p u v w log f = record {
    done = log.0 ++ f.done;
    log = f.log ∙ ap (λ (l : List Did). l ++ f.done) log.1 ∙ append_assoc u.log log.0 f.done;
    word = f.word;
    given = record {
      earlier = log.0 ++ f.given.earlier;
      step = f.given.step;
      later = f.given.later;
      cut = ap (λ (l : List Did). log.0 ++ l) f.given.cut ∙ sym (append_assoc log.0 f.given.earlier (f.given.step ∷ f.given.later));
      gives = f.given.gives;
    };
    last = f.last;
  }

  found-front : (p : ℕ) (u v w : View X) → StartsWith w.log v.log → HasFoundLast p u v → HasFoundLast p u w
  found-front p u v w log f = record {
    done = f.done ++ log.0;
    log = log.1 ∙ ap (λ (l : List Did). l ++ log.0) f.log ∙ append_assoc u.log f.done log.0;
    word = f.word;
    given = record {
      earlier = f.given.earlier;
      step = f.given.step;
      later = f.given.later ++ log.0;
      cut = ap (λ (l : List Did). l ++ log.0) f.given.cut ∙ append_assoc f.given.earlier (f.given.step ∷ f.given.later) log.0;
      gives = f.given.gives;
    };
    last = f.last;
  }

  pub worn-then : (u v w : View X) → v.start ≡ u.start → StartsWith v.log u.log → StartsWith w.log v.log
      → GainsWorn u v → GainsWorn v w → GainsWorn u w
  worn-then u v w start early late f g tells =
      let a = f tells in
      let b = g (ap (λ (o : Origin). o.tells) start ∙ tells) in (
        λ q e.
            ⊎_elim
            (λ (had : has q v.numbers ≡ true). ⊎_elim (λ old. inl old) (λ found. inr (found-front q u v w late found)) (a.0 q had))
            (λ found. inr (found-later q u v w early found))
            (b.0 q e),
        b.1 ∙ a.1,
      )

  -- a page at the last version, whose number the pass has kept
  pub worn-page : (p : ℕ) (done : List Did) (v w : View X) → w.log ≡ v.log ++ done → IsWorn done p
      → (v.start.tells ≡ true → ((q : ℕ) → has q w.numbers ≡ (eqb q p || has q v.numbers)) × (w.freed ≡ v.freed)) → GainsWorn v w
  worn-page p done v w log worn k tells =
      let found : HasFoundLast p v w = record { done = done; log = log; word = worn.word; given = worn.given; last = worn.last } in (
        λ q e.
            ⊎_elim
            (λ (same : q ≡ p). inr (subst (λ n. HasFoundLast n v w) (sym same) found))
            (λ (ne : q ≢ p). inl (sym (ap (λ b. b || has q v.numbers) (ne_eqb q p ne)) ∙ sym ((k tells).0 q) ∙ e))
            (cases_eq q p),
        (k tells).1,
      )

  -- ---- releases

  -- of a page that has the words that it had
  pub released-same : (p version : ℕ) (said : _) (v w : View X) → draft_of v p ≡ (last_of v p).words
      → IsReleased p version said v w → GainsNone v w
  released-same p version said v w same r tells = (
    λ q e. left-has p q v (sym (ap (has q) r.numbers.0) ∙ e),
    r.numbers.1 ∙ ap (λ (l : List ℕ). l ++ v.freed) (freed-same v p same),
  )

  -- of a page that is in use
  pub released-used : (p version : ℕ) (said : _) (v w : View X)
      → (v.start.tells ≡ true → all_zero (draft_of v p) ≡ false) → IsReleased p version said v w → GainsNone v w
  released-used p version said v w used r tells = (
    λ q e. left-has p q v (sym (ap (has q) r.numbers.0) ∙ e),
    r.numbers.1 ∙ ap (λ (l : List ℕ). l ++ v.freed) (freed-used v (p ∷ []) one),
  )
    where
      one : (q : ℕ) → has q (p ∷ []) ≡ true → all_zero (draft_of v q) ≡ false
      one q e =
          ⊎_elim
          (λ (here : q ≡ p). subst (λ n. all_zero (draft_of v n) ≡ false) (sym here) (used tells))
          (λ (ne : q ≢ p). absurd (true≢false (sym e ∙ ap (λ b. b || false) (ne_eqb q p ne))))
          (cases_eq q p)
