-- Pairs whose keys are a generator's numbers have no key twice.
use Rattle.std.proofs.Common.{◌≡◌, ℕ, zero, suc, ◌+◌, ◌^◌, ◌<◌, ◌≤◌, false, eqb, List, [], ◌∷◌, ◌++◌, map, arith}
use Rattle.std.proofs.lemmas.Bool.{ne_eqb}
use Rattle.std.proofs.lemmas.List.{map-append}
use Rattle.std.specs.List.{IsDistinct, AllByRecursion}
use Rattle.vm_map.specs.Map.{Pairs}
use Rattle.vm_build.specs.Numbers.{number_at, numbered, HasNoTwins}
use Rattle.vm_build.proofs.Period.{numbers_differ}

abbrev keys : Pairs → List ℕ
keys pairs = map (λ (e : ℕ × ℕ). e.0) pairs

-- no key is this one
abbrev Lack : ℕ → List ℕ → Type 0
Lack k keys = AllByRecursion (λ j. eqb j k ≡ false) keys

lack_more : (xs : List ℕ) (x k : ℕ) → Lack k xs → eqb x k ≡ false → Lack k (xs ++ x ∷ [])
lack_more [] x k none other = (other, tt)
lack_more (y ∷ ys) x k none other = (none.0, lack_more ys x k none.1 other)

all_more : (P : ℕ → Type 0) (xs : List ℕ) (x : ℕ) → AllByRecursion P xs → P x → AllByRecursion P (xs ++ x ∷ [])
all_more P [] x all one = (one, tt)
all_more P (y ∷ ys) x all one = (all.0, all_more P ys x all.1 one)

distinct_more : (xs : List ℕ) (k : ℕ) → IsDistinct eqb xs → Lack k xs → IsDistinct eqb (xs ++ k ∷ [])
unfolding IsDistinct
distinct_more [] k apart none = (tt, tt)
distinct_more (y ∷ ys) k apart none = (all_more (λ j. eqb y j ≡ false) ys k apart.0 none.0, distinct_more ys k apart.1 none.1)

keys_more : (pairs : Pairs) (e : ℕ × ℕ) → keys (pairs ++ e ∷ []) ≡ keys pairs ++ e.0 ∷ []
keys_more pairs e = map-append (λ (e : ℕ × ℕ). e.0) pairs (e ∷ [])

-- the number n places after the seed's is none of the first m
lack_later : (seed n m : ℕ) → m ≤ n → n < 2 ^ 64 → Lack (number_at seed n) (keys (numbered seed m))
lack_later seed n zero le below = tt
lack_later seed n (suc m) le below =
    let other : eqb (number_at seed m) (number_at seed n) ≡ false = ne_eqb (number_at seed m) (number_at seed n)
    (λ same. differ m (numbers_differ seed m n same (omega arith) (omega arith)) le) in
    rw (keys_more (numbered seed m) (number_at seed m, m + 1))
    (lack_more (keys (numbered seed m)) (number_at seed m) (number_at seed n)
    (lack_later seed n m (omega arith) below) other)
  where
    differ : (m : ℕ) → m ≡ n → suc m ≤ n → ⊥
    differ m is lt = omega arith

pub numbered_apart : (seed n : ℕ) → n ≤ 2 ^ 64 → HasNoTwins (numbered seed n)
unfolding IsDistinct
numbered_apart seed zero le = tt
numbered_apart seed (suc n) le =
    rw (keys_more (numbered seed n) (number_at seed n, n + 1))
    (distinct_more (keys (numbered seed n)) (number_at seed n) (numbered_apart seed n (omega arith))
    (lack_later seed n n (omega arith) (omega arith)))
