-- The keys of a map.
use Rattle.std.specs.Prelude.{ℕ, ◌^◌}

-- the first number that is no key: every key is below it
abbrev pub KEY_END : ℕ
KEY_END = 2 ^ 64
