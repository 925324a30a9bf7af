-- A step of one pass that changes what it has of page numbers, the bits, the next word and the words of pages, by
-- what it shows of each number.
use mathlib.Core.Option.{some}
use lib.ListN.{get_elem?}
use Rattle.std.proofs.Common.{⊎_elim, ◌+◌, ◌<◌, ◌≡◌, ◌≢◌, ◌≤◌, ◌⊎◌, arith, Bool, false, List, slice_set, subst, sym, true, ℕ}
use Rattle.vm_owner.specs.Numbers.{has}
use Rattle.vm_numbers.specs.Hands.{all_zero, Hands, in_hand, in_hands, NumbersFit, unit_if}
use Rattle.vm_numbers.proofs.Sums.{hands-at, hands-set, hands-two, one-true, set-cases}

-- what the step shows of the number of page p
pub record Moves (set set' : ℕ → Bool) (next' : ℕ) (last last' logical logical' : ℕ → List ℕ) (hands : List Hands)
    (h h' : Hands) (p : ℕ) : Type 0 where
  -- it stands in no more places than before; or it stood in none, and stands in one, of a page that was claimed
  pub count : (unit_if (set' p) + in_hand p h' ≤ unit_if (set p) + in_hand p h)
      ⊎ ((unit_if (set p) + in_hands p hands ≡ 0) × (unit_if (set' p) + in_hand p h' ≤ 1) × (p < next'))
  -- zero words stay, or no other pass has the number
  pub words : ((all_zero (last p) ≡ true → all_zero (last' p) ≡ true)
      × (all_zero (logical p) ≡ true → all_zero (logical' p) ≡ true)) ⊎ (in_hands p hands ≡ in_hand p h)
  pub free : set' p ≡ true → (all_zero (last' p) ≡ true) × (all_zero (logical' p) ≡ true)
  pub held : has p h'.numbers ≡ true → (all_zero (last' p) ≡ true) × (has p h'.pending ≡ false → all_zero (logical' p) ≡ true)
  pub freed : has p h'.freed ≡ true → (all_zero (logical' p) ≡ true) × (has p h'.pending ≡ false → all_zero (last' p) ≡ true)

module _ (set set' : ℕ → Bool) (next next' : ℕ) (last last' logical logical' : ℕ → List ℕ) (hands : List Hands) (id : ℕ) (h h' : Hands)
    (there : get_elem? hands id ≡ some h) (up : next ≤ next')
    (moves : (p : ℕ) → Moves set set' next' last last' logical logical' hands h h' p)
    (fit : NumbersFit set next last logical hands) where
  -- another pass that has the number finds its words as zero as they were
  others : (j : ℕ) (u : Hands) (p : ℕ) → j ≢ id → get_elem? hands j ≡ some u → 1 ≤ in_hand p u
      → (all_zero (last p) ≡ true → all_zero (last' p) ≡ true)
      × (all_zero (logical p) ≡ true → all_zero (logical' p) ≡ true)
  others j u p ne at one =
      ⊎_elim (λ t. t)
      (λ only. absurd (let two = hands-two p hands j id u h ne at there in omega (arith, only, two, one)))
      (moves p).words

  numbered : (u : Hands) (p : ℕ) → has p u.numbers ≡ true → 1 ≤ in_hand p u
  numbered u p e = let one = one-true (has p u.numbers) e in omega (arith, one)

  was_freed : (u : Hands) (p : ℕ) → has p u.freed ≡ true → 1 ≤ in_hand p u
  was_freed u p e = let one = one-true (has p u.freed) e in omega (arith, one)

  sum : (p : ℕ) → in_hands p (slice_set hands id h') + in_hand p h ≡ in_hands p hands + in_hand p h'
  sum p = hands-set p hands id h h' there

  pub moves-keep : NumbersFit set' next' last' logical' (slice_set hands id h')
  moves-keep = record {
    once = λ p. ⊎_elim
        (λ le. omega (arith, sum p, le, fit.once p))
        (λ t. omega (arith, sum p, t.0, t.1, hands-at p hands id h there))
        (moves p).count;
    below = λ p some'. ⊎_elim
        (λ le. let was : 1 ≤ unit_if (set p) + in_hands p hands = omega (arith, sum p, le, some') in omega (arith, up, fit.below p was))
        (λ t. t.2)
        (moves p).count;
    free = λ p e. (moves p).free e;
    held = λ j u at p e. ⊎_elim
        (λ (same : u ≡ h'). subst (λ (y : Hands). has p y.numbers ≡ true → (all_zero (last' p) ≡ true)
        × (has p y.pending ≡ false → all_zero (logical' p) ≡ true)) (sym same) (moves p).held e)
        (λ t. let old = fit.held j u t.1 p e in let to = others j u p t.0 t.1 (numbered u p e) in (to.0 old.0, λ n. to.1 (old.1 n)))
        (set-cases hands id j h' u at);
    freed = λ j u at p e. ⊎_elim
        (λ (same : u ≡ h'). subst (λ (y : Hands). has p y.freed ≡ true → (all_zero (logical' p) ≡ true)
        × (has p y.pending ≡ false → all_zero (last' p) ≡ true)) (sym same) (moves p).freed e)
        (λ t. let old = fit.freed j u t.1 p e in let to = others j u p t.0 t.1 (was_freed u p e) in (to.1 old.0, λ n. to.0 (old.1 n)))
        (set-cases hands id j h' u at);
  }
