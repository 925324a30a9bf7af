-- Counts in a word of 64 bits: each rises by one, or stands at its last value.
use Rattle.std.specs.Prelude.{ℕ, ◌+◌, min}

-- the last value of a count
abbrev pub MAX_COUNT : ℕ
MAX_COUNT = 18446744073709551615

-- a count after one more, which stands still at the last value
unfoldable pub count_more : ℕ → ℕ
count_more count = min (count + 1) MAX_COUNT
