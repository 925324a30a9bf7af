-- Keys that are byte strings, and each as a number: strings of at most 64 bytes stand in the order of their ranks.
use Rattle.std.specs.Prelude.{◌≡◌, ℕ, zero, suc, ◌+◌, ◌-◌, ◌*◌, ◌/◌, ◌%◌, ◌^◌, ◌<◌, ◌≤◌, ◌==◌, List, [], ◌∷◌, length, if◌then◌else◌, Bool}
use Rattle.std.specs.Prelude.{true, false, nat_lt, ◌&&◌}

abbrev pub AreBytes : List ℕ → Type 0
AreBytes [] = Unit {0}
AreBytes (b ∷ s) = (b < 256) × AreBytes s

-- at most so many bytes
pub record IsString (most : ℕ) (s : List ℕ) : Type 0 where
  pub fits : length s ≤ most
  pub bytes : AreBytes s

-- s stands before t, as words in a dictionary do
abbrev pub before : List ℕ → List ℕ → Bool
before s [] = false
before [] (b ∷ t) = true
before (a ∷ s) (b ∷ t) = if nat_lt a b then true else a == b && before s t

abbrev pub IsBefore : List ℕ → List ℕ → Type 0
IsBefore s t = before s t ≡ true

-- digits of base 257, the first one the greatest: a byte and 1, and 0 where the string has ended
unfoldable pub rank_in : ℕ → List ℕ → ℕ
rank_in zero s = 0
rank_in (suc n) [] = 0
rank_in (suc n) (b ∷ s) = (b + 1) * 257 ^ n + rank_in n s

abbrev pub rank : List ℕ → ℕ
rank s = rank_in 64 s

-- every rank is below
abbrev pub RANK_END : ℕ
RANK_END = 257 ^ 64

-- the string of a number's digits, up to the first that is 0
unfoldable pub string_in : ℕ → ℕ → List ℕ
string_in zero k = []
string_in (suc n) k = if k / 257 ^ n == 0 then [] else (k / 257 ^ n - 1) ∷ string_in n (k % 257 ^ n)

abbrev pub string_of : ℕ → List ℕ
string_of k = string_in 64 k
