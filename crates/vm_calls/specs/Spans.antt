-- The memory for the ranges among calls: a span for each, taken before the first call is made.
use Rattle.std.specs.Prelude.{[], ◌*◌, ◌+◌, ◌∷◌, ◌≡◌, ◌≤◌, length, List, ℕ}
use Rattle.vm_map.specs.{declared.call.Call.Call, Map.Pairs}
use Rattle.vm_map.specs.declared.call.Call.TheVariants.{Del, Get, Put, Range, Swap, Window}
use Rattle.vm_rule.specs.Prelude.{Each}
use Rattle.vm_tree_model.specs.Fixed.{capacity}
use Rattle.vm_tree_laws.specs.May.{MOST_LEAVES}

-- how many of the calls ask for a range
abbrev pub ranges_asked : List Call → ℕ
ranges_asked [] = 0
ranges_asked (Get key ∷ calls) = ranges_asked calls
ranges_asked (Put key value ∷ calls) = ranges_asked calls
ranges_asked (Del key ∷ calls) = ranges_asked calls
ranges_asked (Window start most ∷ calls) = ranges_asked calls
ranges_asked (Swap key want value ∷ calls) = ranges_asked calls
ranges_asked (Range low bound ∷ calls) = 1 + ranges_asked calls

-- no pair, and room for those of as many leaves on pages of n words as can be held together
abbrev pub IsEmptySpan : ℕ → Pairs × ℕ → Type 0
IsEmptySpan n span = (span.0 ≡ []) × (capacity n * MOST_LEAVES ≤ span.1)

-- there is such a span for each of the calls that asks for a range
pub record HasSpans (n : ℕ) (calls : List Call) (spans : List (Pairs × ℕ)) : Type 0 where
  pub count : length spans ≡ ranges_asked calls
  pub empty : Each (IsEmptySpan n) spans
