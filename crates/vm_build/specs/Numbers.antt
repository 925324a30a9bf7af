-- The numbers of a generator, each from the one before, and pairs whose keys they are.
use Rattle.std.specs.Prelude.{ℕ, zero, suc, ◌+◌, ◌*◌, ◌%◌, ◌^◌, [], ◌∷◌, ◌++◌, map}
use Rattle.std.specs.List.{IsDistinct}
use Rattle.std.specs.Prelude.{eqb}
use Rattle.vm_map.specs.Map.{Pairs}

-- the number after x
abbrev pub next_number : ℕ → ℕ
next_number x = (6364136223846793005 * x + 1442695040888963407) % 2 ^ 64

-- the number so many places after that of the seed
abbrev pub number_at : ℕ → ℕ → ℕ
number_at seed zero = seed
number_at seed (suc n) = next_number (number_at seed n)

-- the first n numbers of a seed, each with its place, from 1 on
abbrev pub numbered : ℕ → ℕ → Pairs
numbered seed zero = []
numbered seed (suc n) = numbered seed n ++ (number_at seed n, n + 1) ∷ []

-- no key stands twice
abbrev pub HasNoTwins : Pairs → Type 0
HasNoTwins pairs = IsDistinct eqb (map (λ (e : ℕ × ℕ). e.0) pairs)
