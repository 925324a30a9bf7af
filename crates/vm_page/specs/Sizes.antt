-- How many words a page has: each page of a file has the same number, 64 or 512.
use Rattle.std.specs.Prelude.{ℕ, ◌==◌, ◌||◌, ◌≡◌, true}

abbrev pub IsSize : ℕ → Type 0
IsSize n = ((n == 64) || (n == 512)) ≡ true
