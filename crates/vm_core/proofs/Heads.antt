-- The heads of pages as a list, which is written group after group, from the last one on.
use Rattle.std.proofs.Common.{[], ⊎_elim, ◌&&◌, ◌++◌, ◌+◌, ◌<◌, ◌∙◌, ◌∷◌, ◌≡◌, ◌≤◌, ap, arith, cond, drop, get_or, leb}
use Rattle.std.proofs.Common.{length, length-append, List, ltb, refl, slice_set, subst, suc, sym, take, zero, ℕ}
use Rattle.std.proofs.Math.ListN.{get_or-eq_default, length-set}
use Rattle.std.proofs.Math.Seq.{drop-cons, get_or-append_seam, take-append_seam}
use Rattle.std.proofs.lemmas.Bool.{and_from, and_left, and_right, cases_eq, cases_lt, cond-false, cond-true, le-leb}
use Rattle.std.proofs.lemmas.Bool.{le-ltb, lt-leb, lt-ltb}
use Rattle.std.proofs.lemmas.List.{get_or-set_other, get_or-set_same, get_or_append_left}
use Rattle.vm_event.specs.Prelude.{GroupsFit, head_in, IsGroup}
use Rattle.vm_event.specs.Groups.{in_group}
use Rattle.vm_core.specs.Prelude.{head_of, StartHeads}

-- one page more is its own head
pub own-more : (n : ℕ) (heads : List ℕ) → StartHeads n [] heads → StartHeads (n + 1) [] (heads ++ n ∷ [])
own-more n heads i = record { len = omega (arith, length-append heads (n ∷ []), i.len); each = own }
  where
    own : (p : ℕ) → head_of (heads ++ n ∷ []) p ≡ p
    own p =
        ⊎_elim
        (λ lt. get_or_append_left heads (n ∷ []) p p lt ∙ i.each p)
        (λ le. ⊎_elim
        (λ e. ap (λ k. get_or (heads ++ n ∷ []) k k) e ∙ get_or-append_seam heads n [] (length heads) ∙ sym i.len
        ∙ sym e)
        (λ ne. get_or-eq_default (heads ++ n ∷ []) p (omega (arith, length-append heads (n ∷ []))))
        (cases_eq p (length heads)))
        (cases_lt p (length heads))

-- the pages from h on that stand before page n have h as their head, and all others the one that they had
abbrev pub AreSetUntil : List ℕ → List ℕ → ℕ → ℕ → Type 0
AreSetUntil heads old h n = (p : ℕ) → head_of heads p ≡ cond (leb h p && ltb p n) h (head_of old p)

pub set-none : (heads : List ℕ) (h : ℕ) → AreSetUntil heads heads h h
set-none heads h p =
    sym (⊎_elim
    (λ lt. cond-false _ h (head_of heads p) (and_left _ _ (lt-leb h p lt)))
    (λ le. cond-false _ h (head_of heads p) (and_right _ _ (le-ltb p h le)))
    (cases_lt p h))

pub set-more : (heads old : List ℕ) (h n : ℕ) → h ≤ n → n < length heads → AreSetUntil heads old h n
    → AreSetUntil (slice_set heads n h) old h (n + 1)
set-more heads old h n le lt i p = ⊎_elim here there (cases_eq p n)
  where
    here : p ≡ n → head_of (slice_set heads n h) p ≡ cond (leb h p && ltb p (n + 1)) h (head_of old p)
    here e =
        ap (λ k. get_or (slice_set heads n h) k p) e ∙ get_or-set_same heads n h p lt
        ∙ sym (cond-true _ h (head_of old p) (and_from _ _ (le-leb h p (omega arith)) (lt-ltb p (n + 1) (omega arith))))

    same : (p ≡ n → ⊥) → ltb p n ≡ ltb p (n + 1)
    same ne =
        ⊎_elim
        (λ below. lt-ltb p n below ∙ sym (lt-ltb p (n + 1) (omega arith)))
        (λ past. le-ltb p n past ∙ sym (le-ltb p (n + 1) (omega arith)))
        (cases_lt p n)

    there : (p ≡ n → ⊥) → head_of (slice_set heads n h) p ≡ cond (leb h p && ltb p (n + 1)) h (head_of old p)
    there ne = get_or-set_other heads n p h p ne ∙ i p ∙ ap (λ b. cond (leb h p && b) h (head_of old p)) (same ne)

-- each of groups that fit is a group
pub fits-at : (pages : ℕ) (groups : List (ℕ × ℕ)) (i : ℕ) (d : ℕ × ℕ) → GroupsFit pages groups → i < length groups
    → IsGroup pages (get_or groups i d)
fits-at pages [] i d fit lt = absurd (omega arith)
fits-at pages (g ∷ gs) zero d fit lt = fit.0
fits-at pages (g ∷ gs) (suc i) d fit lt = fits-at pages gs i d fit.2 (omega arith)

-- one group more, before those that are written
pub group-before : (pages : ℕ) (groups : List (ℕ × ℕ)) (i : ℕ) (d : ℕ × ℕ) (old heads : List ℕ) → i < length groups
    → StartHeads pages (drop (i + 1) groups) old → length heads ≡ length old
    → ((p : ℕ) → head_of heads p ≡ cond (in_group (get_or groups i d) p) (get_or groups i d).0 (head_of old p))
    → StartHeads pages (drop i groups) heads
group-before pages groups i d old heads lt before long set =
    let next : suc i ≡ i + 1 = omega arith in
    subst (λ gs. StartHeads pages gs heads)
    (sym (drop-cons groups i d lt ∙ ap (λ k. get_or groups i d ∷ drop k groups) next))
    (record {
      len = long ∙ before.len;
      each = λ p. set p ∙ ap (cond (in_group (get_or groups i d) p) (get_or groups i d).0) (before.each p);
    })

-- a list that is written whole
pub refilled : (n : ℕ) (new items : List ℕ) → n ≡ length new → take n (new ++ drop (length new) items) ≡ new
refilled n new items e =
    ap (λ k. take k (new ++ drop (length new) items)) e ∙ take-append_seam new (drop (length new) items)
