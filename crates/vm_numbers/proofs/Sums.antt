-- How often all passes have a number, after what one of them has changed.
use mathlib.Core.Option as maybe
use mathlib.Core.Option.{some, some-injective}
use lib.ListN.{get_elem?}
use Rattle.std.proofs.Common.{⊎_elim, [], ◌+◌, ◌∷◌, ◌≡◌, ◌≢◌, ◌≤◌, ◌⊎◌, ap, arith, Bool, false, inl, inr, List, refl}
use Rattle.std.proofs.Common.{slice_set, suc, sym, true, zero, ℕ}
use Rattle.std.proofs.lemmas.Bool.{cases_Bool}
use Rattle.vm_numbers.specs.Hands.{Hands, in_hand, in_hands, unit_if}

-- the element at a place of a list, one of which was replaced
pub set-cases : {A : Type 0} (l : List A) (i j : ℕ) (b a : A) → get_elem? (slice_set l i b) j ≡ some a
    → (a ≡ b) ⊎ ((j ≢ i) × (get_elem? l j ≡ some a))
set-cases [] i j b a e = absurd (maybe.some-ne-none a (sym e))
set-cases (x ∷ xs) zero zero b a e = inl (sym (some-injective b a e))
set-cases (x ∷ xs) zero (suc j) b a e = inr (λ z. omega (arith, z), e)
set-cases (x ∷ xs) (suc i) zero b a e = inr (λ z. omega (arith, z), e)
set-cases (x ∷ xs) (suc i) (suc j) b a e = ⊎_elim inl (λ t. inr (λ z. t.0 (omega (arith, z)), t.1)) (set-cases xs i j b a e)

pub hands-set : (p : ℕ) (hs : List Hands) (id : ℕ) (h h' : Hands) → get_elem? hs id ≡ some h
    → in_hands p (slice_set hs id h') + in_hand p h ≡ in_hands p hs + in_hand p h'
hands-set p [] id h h' e = absurd (maybe.some-ne-none h (sym e))
hands-set p (x ∷ xs) zero h h' e = let same : in_hand p x ≡ in_hand p h = ap (in_hand p) (some-injective x h e) in omega (arith, same)
hands-set p (x ∷ xs) (suc id) h h' e = let rest : in_hands p (slice_set xs id h') + in_hand p h ≡ in_hands p
    xs + in_hand p h' = hands-set p xs id h h' e in omega (arith, rest)

pub hands-at : (p : ℕ) (hs : List Hands) (j : ℕ) (h : Hands) → get_elem? hs j ≡ some h → in_hand p h ≤ in_hands p hs
hands-at p [] j h e = absurd (maybe.some-ne-none h (sym e))
hands-at p (x ∷ xs) zero h e = let same : in_hand p x ≡ in_hand p h = ap (in_hand p) (some-injective x h e) in omega (arith, same)
hands-at p (x ∷ xs) (suc j) h e = let rest : in_hand p h ≤ in_hands p xs = hands-at p xs j h e in omega (arith, rest)

pub hands-two : (p : ℕ) (hs : List Hands) (i j : ℕ) (u h : Hands) → i ≢ j → get_elem? hs i ≡ some u
    → get_elem? hs j ≡ some h → in_hand p u + in_hand p h ≤ in_hands p hs
hands-two p [] i j u h ne e e' = absurd (maybe.some-ne-none u (sym e))
hands-two p (x ∷ xs) zero zero u h ne e e' = absurd (ne refl)
hands-two p (x ∷ xs) zero (suc j) u h ne e e' = let same : in_hand p x ≡ in_hand p u =
    ap (in_hand p) (some-injective x u e) in let at : in_hand p h ≤ in_hands p xs = hands-at p xs j h e' in
    omega (arith, same, at)
hands-two p (x ∷ xs) (suc i) zero u h ne e e' = let same : in_hand p x ≡ in_hand p h =
    ap (in_hand p) (some-injective x h e') in let at : in_hand p u ≤ in_hands p xs = hands-at p xs i u e in
    omega (arith, same, at)
hands-two p (x ∷ xs) (suc i) (suc j) u h ne e e' = let both : in_hand p u + in_hand p h ≤ in_hands p xs =
    hands-two p xs i j u h (λ q. ne (ap suc q)) e e' in omega (arith, both)

-- a number that is in one pass's hands alone
pub hands-only : (p : ℕ) (hs : List Hands) (id : ℕ) (h : Hands) → get_elem? hs id ≡ some h
    → ((j : ℕ) (u : Hands) → j ≢ id → get_elem? hs j ≡ some u → in_hand p u ≡ 0) → in_hands p hs ≡ in_hand p h
hands-only p [] id h e none = absurd (maybe.some-ne-none h (sym e))
hands-only p (x ∷ xs) zero h e none =
    let same : in_hand p x ≡ in_hand p h = ap (in_hand p) (some-injective x h e) in
    let rest : in_hands p xs ≡ 0 = hands-none p xs (λ j u at. none (suc j) u (λ z. omega (arith, z)) at) in omega (arith, same, rest)
  where
    hands-none : (p : ℕ) (hs : List Hands) → ((j : ℕ) (u : Hands) → get_elem? hs j ≡ some u → in_hand p u ≡ 0) → in_hands p hs ≡ 0
    hands-none p [] none = refl
    hands-none p (x ∷ xs) none = let first : in_hand p x ≡ 0 = none 0 x refl in let rest : in_hands p xs ≡ 0 =
        hands-none p xs (λ j u at. none (suc j) u at) in omega (arith, first, rest)
hands-only p (x ∷ xs) (suc id) h e none =
    let first : in_hand p x ≡ 0 = none 0 x (λ z. omega (arith, z)) refl in
    let rest : in_hands p xs ≡ in_hand p h =
    hands-only p xs id h e (λ j u ne at. none (suc j) u (λ z. ne (omega (arith, z))) at) in
    omega (arith, first, rest)

-- flags as numbers
pub one-true : (b : Bool) → b ≡ true → unit_if b ≡ 1
one-true b e = rw e refl

pub one-false : (b : Bool) → b ≡ false → unit_if b ≡ 0
one-false b e = rw e refl

pub one-le : (b : Bool) → unit_if b ≤ 1
one-le b = ⊎_elim (λ e. rw e (omega arith)) (λ e. rw e (omega arith)) (cases_Bool b)
