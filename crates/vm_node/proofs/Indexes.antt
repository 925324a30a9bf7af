-- Where the first pair with a key stands, and what is left without it.
use Rattle.std.proofs.Common.{◌≡◌, ◌≢◌, ℕ, zero, suc, ◌<◌, [], ◌∷◌, ◌++◌, length, get_or, take, drop, eqb, true}
use Rattle.std.proofs.Common.{false, Some, None, refl, sym, ap, subst, arith, inl, inr}
use Rattle.std.proofs.lemmas.Bool.{cases_eq}
use Rattle.std.proofs.lemmas.Bool.Decides.{nat_tests}
use Rattle.vm_map.specs.Map.{Pairs, lookup_at, del_pair}
use Rattle.vm_node.specs.Places.{index_at, IsIndexOf}

pub lookup-index : (m : Pairs) (k : ℕ) → index_at m k < length m → lookup_at m k ≡ Some (get_or m (index_at m k) (0, 0)).1
lookup-index [] k lt = absurd (omega arith)
lookup-index (e ∷ es) k lt = grind (arith, nat_tests, lookup-index es k)

pub del-index : (m : Pairs) (k : ℕ) → index_at m k < length m → take (index_at m k) m ++ drop (suc (index_at m k)) m ≡ del_pair m k
del-index [] k lt = absurd (omega arith)
del-index (e ∷ es) k lt = elim (cases_eq e.0 k) [
  | inl same ↦
      let test : eqb e.0 k ≡ true = grind (arith, nat_tests, same) in
      let test' : eqb k e.0 ≡ true = grind (arith, nat_tests, same) in
      rw (test, test') refl
  | inr other ↦
      let test : eqb e.0 k ≡ false = grind (arith, nat_tests, other) in
      let test' : eqb k e.0 ≡ false = grind (arith, nat_tests, other) in
      let lt' = rw test at lt in
      rw (test, test') (ap (λ (l : Pairs). e ∷ l) (del-index es k (omega arith)))
]

pub no_key-del : (m : Pairs) (k : ℕ) → lookup_at m k ≡ None → del_pair m k ≡ m
no_key-del [] k none = refl
no_key-del (e ∷ es) k none = grind (arith, nat_tests, none, no_key-del es k)

pub found_at : (m : Pairs) (k at : ℕ) → IsIndexOf m k at → lookup_at m k ≡ Some (get_or m at (0, 0)).1
found_at m k at is = subst (λ i. lookup_at m k ≡ Some (get_or m i (0, 0)).1) (sym is.place)
    (lookup-index m k (omega (arith, is.place, is.there)))

-- where a pair has the key, one is found
pub not-absent : (m : Pairs) (k at : ℕ) → at < length m → (get_or m at (0, 0)).0 ≡ k → lookup_at m k ≢ None
not-absent [] k at lt same none = absurd (omega (arith, lt))
not-absent (e ∷ es) k zero lt same none =
    let test : eqb k e.0 ≡ true = grind (arith, nat_tests, same) in
    let found : Some e.1 ≡ None = rw test at none in absurd (cc)
not-absent (e ∷ es) k (suc at) lt same none = elim (cases_eq e.0 k) [
  | inl here ↦
      let test : eqb k e.0 ≡ true = grind (arith, nat_tests, here) in
      let found : Some e.1 ≡ None = rw test at none in absurd (cc)
  | inr other ↦
      let test : eqb k e.0 ≡ false = grind (arith, nat_tests, other) in
      not-absent es k at (omega (arith, lt)) same (rw test at none)
]
