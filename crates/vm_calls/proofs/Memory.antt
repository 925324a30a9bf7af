-- The spans of a worker's calls: one for each range, taken before, and gone as the ranges are made.
use Rattle.std.proofs.Common.{[], ◌++◌, ◌+◌, ◌∷◌, ◌≡◌, ◌≤◌, arith, length, List, subst, ℕ}
use Rattle.vm_map.specs.{declared.call.Call.Call, Map.Pairs}
use Rattle.vm_map.specs.declared.call.Call.TheVariants as calls
use Rattle.vm_rule.specs.Prelude.{Each}
use Rattle.vm_calls.specs.Spans.{HasSpans, IsEmptySpan, ranges_asked}

pub ranges-first : (call : Call) (rest : List Call) → ranges_asked (call ∷ rest) ≡ ranges_asked (call ∷ []) + ranges_asked rest
ranges-first (calls.Get key) rest = omega arith
ranges-first (calls.Put key value) rest = omega arith
ranges-first (calls.Del key) rest = omega arith
ranges-first (calls.Window start most) rest = omega arith
ranges-first (calls.Swap key want value) rest = omega arith
ranges-first (calls.Range low bound) rest = omega arith

module _ (n : ℕ) where
  -- there is one for the first call where it asks for one
  pub span-now : (call : Call) (rest : List Call) (spans : List (Pairs × ℕ)) → HasSpans n (call ∷ rest) spans
      → ranges_asked (call ∷ []) ≤ length spans
  span-now call rest spans h = omega (arith, h.count, ranges-first call rest)

  -- and then those for the others are left
  pub spans-after : (call : Call) (rest : List Call) (old new : List (Pairs × ℕ)) → HasSpans n (call ∷ rest) old
      → length new + ranges_asked (call ∷ []) ≡ length old → Each (IsEmptySpan n) new → HasSpans n rest new
  spans-after call rest old new h fewer empty = record { count = omega (arith, h.count, ranges-first call rest, fewer); empty = empty }

  front-last : (new : List (Pairs × ℕ)) (out : Pairs × ℕ) → Each (IsEmptySpan n) (new ++ out ∷ [])
      → Each (IsEmptySpan n) new × IsEmptySpan n out
  front-last [] out e = (tt, e.0)
  front-last (x ∷ xs) out e = let k = front-last xs out e.1 in ((e.0, k.0), k.1)

  -- the last one that is taken is empty, and so are those that are left
  pub last-taken : (old new : List (Pairs × ℕ)) (out : Pairs × ℕ) → old ≡ new ++ out ∷ [] → Each (IsEmptySpan n) old
      → Each (IsEmptySpan n) new × IsEmptySpan n out
  last-taken old new out is empty = front-last new out (subst (Each (IsEmptySpan n)) is empty)
