-- How many words a search by halves among the pairs of a page loads.
use Rattle.std.specs.Prelude.{ℕ, ◌==◌, if◌then◌else◌}

-- 5 of a page of 64 words, which has place for 28 pairs, and 8 of a page of 512, which has place for 252
abbrev pub looks_for : ℕ → ℕ
looks_for n = if n == 64 then 5 else 8
