-- What is read off the views, after one of them changed.
use mathlib.Core.Option as maybe
use Rattle.atomic_table.proofs.Lists.{at_set as view_set}
use Rattle.vm_event.proofs.At.{at_set}
use Rattle.vm_rule.proofs.Prelude.{[], any, ap, arith, at, block_of, Bool, fun_ext, get_elem?, home, known, length}
use Rattle.vm_rule.proofs.Prelude.{List, Option, out_of, out_or, refl, slice_set, some, some-injective, spent, Stored}
use Rattle.vm_rule.proofs.Prelude.{subst, suc, sym, total, upd, upd-keeps, View, zero, ℕ, ⊎_elim, ◌+◌, ◌<◌, ◌||◌, ◌∙◌}
use Rattle.vm_rule.proofs.Prelude.{◌∷◌, ◌≡◌, ◌≢◌}

pub at-bound : {A : Type 0} (l : List A) (i : ℕ) (a : A) → get_elem? l i ≡ some a → i < length l
at-bound [] i a e = absurd (maybe.some-ne-none a (sym e))
at-bound (x ∷ xs) zero a e = omega arith
at-bound (x ∷ xs) (suc i) a e = let h : i < length xs = at-bound xs i a e in omega arith

-- the element that stands there
pub at-there : {A : Type 0} (d : A) (l : List A) (i : ℕ) (a : A) → get_elem? l i ≡ some a → at d l i ≡ a
unfolding at
at-there d [] i a e = absurd (maybe.some-ne-none a (sym e))
at-there d (x ∷ xs) zero a e = some-injective x a e
at-there d (x ∷ xs) (suc i) a e = at-there d xs i a e

-- what each element says, each says where one is replaced by one that says it
pub set-each : {A : Type 0} (P : A → Type 0) (l : List A) (i : ℕ) (b : A) → P b
    → ((j : ℕ) (a : A) → j ≢ i → get_elem? l j ≡ some a → P a) → (j : ℕ) (a : A)
    → get_elem? (slice_set l i b) j ≡ some a → P a
set-each P l i b here there j a e = ⊎_elim (λ t. subst P t.1 here) (λ t. there j a t.0 t.1) (view_set l i j b a e)

module _ {X : Type 0} where
  -- the views as a function, after one of them changed
  pub views-set : (views : List (View X)) (id : ℕ) (v w : View X) → get_elem? views id ≡ some v
      → at spent (slice_set views id w) ≡ upd (at spent views) id w
  views-set views id v w at = at_set spent views id w (at-bound views id v at)

  -- what the new view has as the old one had it, every view has as before
  pub field-still : {A : Type 0} (f : View X → A) (views : List (View X)) (id : ℕ) (v w : View X)
      → get_elem? views id ≡ some v → f w ≡ f v → (a : ℕ) → f (at spent (slice_set views id w) a) ≡ f
      (at spent views a)
  field-still f views id v w there e a = ap (λ h. f (h a)) (views-set views id v w there)
      ∙ upd-keeps f (at spent views) id w (e ∙ ap f (sym (at-there spent views id v there))) a

  pub total-set : (f : View X → ℕ) (views : List (View X)) (id : ℕ) (v w : View X) → get_elem? views id ≡ some v
      → total f (slice_set views id w) + f v ≡ total f views + f w
  total-set f [] id v w e = absurd (maybe.some-ne-none v (sym e))
  total-set f (x ∷ xs) zero v w e = let same : f x ≡ f v = ap f (some-injective x v e) in omega arith
  total-set f (x ∷ xs) (suc id) v w e =
      let rest : total f (slice_set xs id w) + f v ≡ total f xs + f w = total-set f xs id v w e in omega arith

  pub any-same : (f : View X → Bool) (views : List (View X)) (id : ℕ) (v w : View X) → get_elem? views id ≡ some v
      → f w ≡ f v → any f (slice_set views id w) ≡ any f views
  any-same f [] id v w e s = refl
  any-same f (x ∷ xs) zero v w e s = ap (λ y. y || any f xs) (s ∙ sym (ap f (some-injective x v e)))
  any-same f (x ∷ xs) (suc id) v w e s = ap (λ y. f x || y) (any-same f xs id v w e s)

  -- the blocks that are out, where the view keeps what it has out
  pub out-same : (views : List (View X)) (id : ℕ) (v w : View X) (p : ℕ) → get_elem? views id ≡ some v → w.out ≡ v.out
      → out_of (slice_set views id w) p ≡ out_of views p
  out-same [] id v w p e s = refl
  out-same (x ∷ xs) zero v w p e s = ap (λ y. out_or y p (out_of xs p)) (s ∙ sym (ap (λ (y : View X). y.out) (some-injective x v e)))
  out-same (x ∷ xs) (suc id) v w p e s = ap (out_or x.out p) (out-same xs id v w p e s)

  module _ {B : Type 0} (stored : B → Stored) where
    pub block-same : (homes : List (maybe.Option (Option B))) (views : List (View X)) (id : ℕ) (v w : View X)
        → get_elem? views id ≡ some v → w.out ≡ v.out → block_of stored homes (slice_set views id w) ≡ block_of stored
        homes views
    unfolding block_of
    block-same homes views id v w e s = fun_ext (λ p. ap (known stored (home homes p)) (out-same views id v w p e s))
