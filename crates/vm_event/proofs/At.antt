-- A list as a function, after a write.
use Rattle.std.proofs.Common.{⊎_elim, ◌<◌, ◌∙◌, ◌≡◌, ap, get_or, length, List}
use Rattle.std.proofs.Common.{refl, slice_set, subst, sym, ℕ}
use Rattle.std.proofs.lemmas.Bool.{cases_eq, cond-false, cond-true, eq-eqb, ne_eqb}
use Rattle.std.proofs.lemmas.List.{get_or-set_other, get_or-set_same, get_or_default}
use Rattle.std.proofs.Math.ListN.{length-set}
use mathlib.Core.Path.{fun_ext}
use Rattle.vm_event.specs.Prelude.{at, LocksInv, no_seat}
use Rattle.vm_event.specs.Prelude.{upd}
use Rattle.vm_event.specs.declared.event.Seat.{Seat}

pub at_set : {A : Type 0} (d : A) (xs : List A) (i : ℕ) (x : A) → i < length xs → at d (slice_set xs i x) ≡ upd (at d xs) i x
unfolding at upd
at_set d xs i x lt =
    fun_ext (λ j. ⊎_elim
    (λ e. ap (λ k. get_or (slice_set xs i x) k d) e ∙ get_or-set_same xs i x d lt ∙ sym (cond-true _ x (get_or xs j d) (eq-eqb j i e)))
    (λ ne. get_or-set_other xs i j x d ne ∙ sym (cond-false _ x (get_or xs j d) (ne_eqb j i ne)))
    (cases_eq j i))

-- in range the default does not matter
pub get_or_any : {A : Type 0} (xs : List A) (i : ℕ) (x d : A) → i < length xs → get_or xs i x ≡ get_or xs i d
get_or_any xs i x d lt = get_or_default xs i x d lt

pub seat_here : (xs : List Seat) (i : ℕ) (x : Seat) → i < length xs → get_or xs i x ≡ at no_seat xs i
unfolding at
seat_here xs i x lt = get_or_any xs i x no_seat lt

-- a seat is written: what holds of the locks with the seat changed
pub locks-write : (xs : List Seat) (a state version : ℕ) (x : Seat) (g : Seat → Seat) → a < length xs
    → x ≡ get_or xs a x → LocksInv (length xs) state version (upd (at no_seat xs) a (g (at no_seat xs a)))
    → LocksInv (length (slice_set xs a (g x))) state version (at no_seat (slice_set xs a (g x)))
locks-write xs a state version x g lt e i =
    rw (length-set, at_set no_seat xs a (g x) lt)
    (subst (λ y. LocksInv (length xs) state version (upd (at no_seat xs) a (g y))) (sym (seat_here xs a x lt) ∙ sym e) i)

-- in range, an element of a list is the one that the function gives
pub at-value : {A : Type 0} (d : A) (xs : List A) (i : ℕ) (x : A) → i < length xs → x ≡ get_or xs i x → at d xs i ≡ x
unfolding at
at-value d xs i x lt e = get_or_any xs i d x lt ∙ sym e

pub at-get : {A : Type 0} (d : A) (xs : List A) (i : ℕ) → at d xs i ≡ get_or xs i d
unfolding at
at-get d xs i = refl
