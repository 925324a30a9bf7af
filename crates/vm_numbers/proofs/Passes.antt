-- A pass that takes in another has its page numbers too; a pass that is split off has none.
use mathlib.Core.Option as maybe
use mathlib.Core.Option.{some, some-injective}
use lib.ListN.{get_elem?}
use Rattle.std.proofs.Common.{⊎_elim, [], ◌++◌, ◌+◌, ◌||◌, ◌∙◌, ◌∷◌, ◌≡◌, ◌≢◌, ◌≤◌, ◌⊎◌, ap, arith, Bool, false, inl}
use Rattle.std.proofs.Common.{inr, List, refl, slice_set, subst, suc, sym, true, zero, ℕ}
use Rattle.std.proofs.lemmas.Bool.{cases_Bool}
use Rattle.vm_owner.specs.Numbers.{has}
use Rattle.vm_owner.proofs.NumberLemmas.{has-both}
use Rattle.vm_numbers.specs.Hands.{Hands, in_hand, in_hands, joined_hands, no_hands, NumbersFit, unit_if}
use Rattle.vm_numbers.proofs.Moves.{moves-keep}
use Rattle.vm_numbers.proofs.Sums.{hands-at, hands-set, hands-two, one-false, one-le, one-true}

set-else : {A : Type 0} (l : List A) (i j : ℕ) (b : A) → j ≢ i → get_elem? (slice_set l i b) j ≡ get_elem? l j
set-else [] i j b ne = refl
set-else (x ∷ xs) zero zero b ne = absurd (ne refl)
set-else (x ∷ xs) zero (suc j) b ne = refl
set-else (x ∷ xs) (suc i) zero b ne = refl
set-else (x ∷ xs) (suc i) (suc j) b ne = set-else xs i j b (λ e. ne (ap suc e))

set-both : {A : Type 0} (l : List A) (i j : ℕ) (a b : A) → j ≢ i → slice_set (slice_set l i a) j b ≡ slice_set (slice_set l j b) i a
set-both [] i j a b ne = refl
set-both (x ∷ xs) zero zero a b ne = absurd (ne refl)
set-both (x ∷ xs) zero (suc j) a b ne = refl
set-both (x ∷ xs) (suc i) zero a b ne = refl
set-both (x ∷ xs) (suc i) (suc j) a b ne = ap (λ (l : List _). x ∷ l) (set-both xs i j a b (λ e. ne (ap suc e)))

or-parts : (a b : Bool) → (a || b) ≡ true → (a ≡ true) ⊎ (b ≡ true)
or-parts true b e = inl refl
or-parts false b e = inr e

both-le : (p : ℕ) (l m : List ℕ) → unit_if (has p (l ++ m)) ≤ unit_if (has p l) + unit_if (has p m)
both-le p l m =
    ⊎_elim
    (λ t. let le = one-le (has p (l ++ m)) in ⊎_elim
    (λ a. let one = one-true (has p l) a in omega (arith, le, one))
    (λ b. let one = one-true (has p m) b in omega (arith, le, one))
    (or-parts (has p l) (has p m) (sym (has-both p l m) ∙ t)))
    (λ f. let none = one-false (has p (l ++ m)) f in omega (arith, none))
    (cases_Bool (has p (l ++ m)))

module _ (set : ℕ → Bool) (next : ℕ) (last logical : ℕ → List ℕ) (hands : List Hands) (fit : NumbersFit set next last logical hands) where
  module _ (id other : ℕ) (h u : Hands) (ne : other ≢ id) (there : get_elem? hands id ≡ some h) (at : get_elem? hands other ≡ some u)
      (owes : (p : ℕ) → has p u.owed ≡ false) (free : (p : ℕ) → has p u.pending ≡ false) where
    abbrev without : List Hands
    without = slice_set hands other no_hands

    -- the other's numbers are nowhere for a moment
    gone : NumbersFit set next last logical without
    gone = moves-keep set set next next last last logical logical hands other u no_hands at (omega arith)
        (λ p. record {
          count = inl (omega arith);
          words = inl (λ z. z, λ z. z);
          free = fit.free p;
          held = λ e. absurd cc;
          freed = λ e. absurd cc;
        })
        fit

    still : get_elem? without id ≡ some h
    still = set-else hands other id no_hands (λ e. ne (sym e)) ∙ there

    -- what was the other's alone
    nowhere : (p : ℕ) → 1 ≤ in_hand p u → (unit_if (set p) + in_hands p without ≡ 0) × (in_hand p h ≡ 0) × (in_hand p u ≡ 1)
    nowhere p one =
        let two = hands-two p hands id other h u (λ e. ne (sym e)) there at in
        let sum : in_hands p without + in_hand p u ≡ in_hands p hands + 0 = hands-set p hands other u no_hands at in
        let once = fit.once p in
        (omega (arith, two, sum, once, one), omega (arith, two, once, one), omega (arith, two, once, one))

    pub join_keeps : NumbersFit set next last logical (slice_set (slice_set hands id (joined_hands h u)) other no_hands)
    join_keeps = subst (NumbersFit set next last logical) (sym (set-both hands id other (joined_hands h u) no_hands ne))
        (moves-keep set set next next last last logical logical without id h (joined_hands h u) still (omega arith)
        (λ p.
        let numbers = both-le p h.numbers u.numbers in
        let freed = both-le p h.freed u.freed in
        record {
          count = ⊎_elim
              (λ some'. let k = nowhere p some' in let low = fit.below p (let a = hands-at p hands other u at in omega (arith, a, some')) in
              inr (
                k.0,
                (let n = fit.once p in let two = hands-two p hands id other h u (λ e. ne (sym e)) there at in
                    omega (arith, numbers, freed, two, n)),
                low,
              ))
              (λ none. inl (omega (arith, numbers, freed, none)))
              (cases p);
          words = inl (λ z. z, λ z. z);
          free = fit.free p;
          held = λ e. ⊎_elim (λ a. fit.held id h there p a) (λ b. let o = fit.held other u at p b in
              (o.0, λ _. o.1 (free p))) (or-parts _ _ (sym (has-both p h.numbers u.numbers) ∙ e));
          freed = λ e. ⊎_elim (λ a. fit.freed id h there p a) (λ b. let o = fit.freed other u at p b in
              (o.0, λ _. o.1 (free p))) (or-parts _ _ (sym (has-both p h.freed u.freed) ∙ e));
        })
        gone)
      where
        cases : (p : ℕ) → (1 ≤ in_hand p u) ⊎ (unit_if (has p u.numbers) + unit_if (has p u.freed) ≡ 0)
        cases p =
            ⊎_elim
            (λ n. let one = one-true (has p u.numbers) n in inl (omega (arith, one)))
            (λ n. ⊎_elim
            (λ f. let one = one-true (has p u.freed) f in inl (omega (arith, one)))
            (λ f. let a = one-false (has p u.numbers) n in let b = one-false (has p u.freed) f in inr (omega (arith, a, b)))
            (cases_Bool (has p u.freed)))
            (cases_Bool (has p u.numbers))

  -- one pass more, with no number
  more-sum : (p : ℕ) (l : List Hands) → in_hands p (l ++ no_hands ∷ []) ≡ in_hands p l
  more-sum p [] = refl
  more-sum p (x ∷ xs) = ap (λ n. in_hand p x + n) (more-sum p xs)

  more-at : (l : List Hands) (j : ℕ) (u : Hands) → get_elem? (l ++ no_hands ∷ []) j ≡ some u → (get_elem? l j ≡ some u) ⊎ (u ≡ no_hands)
  more-at [] zero u e = inr (sym (some-injective no_hands u e))
  more-at [] (suc j) u e = absurd (maybe.some-ne-none u (sym e))
  more-at (x ∷ xs) zero u e = inl e
  more-at (x ∷ xs) (suc j) u e = more-at xs j u e

  pub split_keeps : NumbersFit set next last logical (hands ++ no_hands ∷ [])
  split_keeps = record {
    once = λ p. let sum = more-sum p hands in let once = fit.once p in omega (arith, sum, once);
    below = λ p e. fit.below p (let sum = more-sum p hands in omega (arith, sum, e));
    free = fit.free;
    held = λ j u at p e. ⊎_elim (λ a. fit.held j u a p e)
        (λ (same : u ≡ no_hands).
        absurd (let none : has p u.numbers ≡ false = ap (λ (y : Hands). has p y.numbers) same in cc))
        (more-at hands j u at);
    freed = λ j u at p e. ⊎_elim (λ a. fit.freed j u a p e)
        (λ (same : u ≡ no_hands). absurd (let none : has p u.freed ≡ false = ap (λ (y : Hands). has p y.freed) same in
        cc)) (more-at hands j u at);
  }
