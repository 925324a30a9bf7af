-- Which calls of a block in memory fail, and how many can.
use Rattle.std.specs.Prelude.{ℕ, ◌+◌, ◌-◌, ◌^◌, List, Bool, ◌&&◌, min, nat_eq, nat_lt}
use Rattle.std.specs.List.{count_by}
use Rattle.std.specs.Set.{unique_keys, is_member, distinct_count}

-- whether the call after so many is to fail: its number is in the plan. A call past number 2^64 - 1 has no number, and does not fail.
abbrev pub plans_failure : List ℕ → ℕ → Bool
plans_failure numbers calls = nat_lt calls (2 ^ 64 - 1) && is_member nat_eq numbers (calls + 1)

-- how many different numbers of the plan are at most this
abbrev pub up_to : List ℕ → ℕ → ℕ
up_to numbers calls = count_by (λ number. nat_lt number (calls + 1)) (unique_keys nat_eq numbers)

-- what the count of faults never passes: the different numbers of the plan
abbrev pub most_faults : List ℕ → ℕ
most_faults numbers = min (distinct_count nat_eq numbers) (2 ^ 64 - 1)

-- the same of a count that starts at a number of faults
abbrev pub most_counted : ℕ → List ℕ → ℕ
most_counted first numbers = min (first + distinct_count nat_eq numbers) (2 ^ 64 - 1)
