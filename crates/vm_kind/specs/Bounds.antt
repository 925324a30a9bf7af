-- How many words of a page that stands in a frame a call on a node loads at most.
use Rattle.std.specs.Prelude.{ℕ}

-- those of how much of its room is left, of whether it has these fences, and of the searches for a key's child and for its value
pub record Bounds : Type 0 where
  pub spare : ℕ
  pub fences : ℕ
  pub child : ℕ
  pub find : ℕ
