-- How many slots a page has place for at most.
use Rattle.std.specs.Prelude.{ℕ}

-- the words behind the header
abbrev pub MOST_SLOTS : ℕ
MOST_SLOTS = 504
