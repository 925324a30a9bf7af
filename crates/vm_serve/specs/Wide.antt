-- Ranges that were answered as too wide: each such answer has the same cause.
use Rattle.std.specs.Prelude.{[], ◌*◌, ◌+◌, ◌-◌, ◌∷◌, ◌≤◌, Err, length, List, Ok, Result, ℕ}
use Rattle.vm_map.specs.{declared.call.Call.Call, declared.call.Reply.Reply, declared.call.Said.Said}
use Rattle.vm_map.specs.declared.call.Call.TheVariants.{Del, Get, Put, Range, Swap, Window}
use Rattle.vm_map.specs.declared.call.Reply.TheVariants.{Gone, Got, Many, Swapped, Was, Wide, Win}
use Rattle.vm_tree_model.specs.{Count.node_count, Fixed.fixed}
use Rattle.vm_node.specs.Halves.{half_of}
use Rattle.vm_drive.specs.from_vm_step.Prelude.{View}
use Rattle.vm_tree_laws.specs.History.{news}
use Rattle.vm_drive.specs.from_vm_tree_rule.declared_fault_TreeFault.{TreeFault}

-- the call is a range
abbrev pub IsRangeCall : Call → Type 0
IsRangeCall (Get key) = ⊥
IsRangeCall (Put key value) = ⊥
IsRangeCall (Del key) = ⊥
IsRangeCall (Window start most) = ⊥
IsRangeCall (Swap key want value) = ⊥
IsRangeCall (Range low bound) = Unit {0}

-- where the answer is `wide` the call is a range, and this is so
abbrev pub WidenedBy : Type 0 → Call → Result Reply TreeFault → Type 0
WidenedBy cause call (Ok (Got found)) = Unit {0}
WidenedBy cause call (Ok (Was old)) = Unit {0}
WidenedBy cause call (Ok (Gone old)) = Unit {0}
WidenedBy cause call (Ok (Win window)) = Unit {0}
WidenedBy cause call (Ok (Swapped outcome)) = Unit {0}
WidenedBy cause call (Ok (Many span)) = Unit {0}
WidenedBy cause call (Ok (Wide reach)) = IsRangeCall call × cause
WidenedBy cause call (Err fault) = Unit {0}

-- so it is of a list's answers
abbrev pub AreWidenedBy : Type 0 → List Call → List (Result Reply TreeFault) → Type 0
AreWidenedBy cause [] rs = Unit {0}
AreWidenedBy cause (c ∷ cs) [] = Unit {0}
AreWidenedBy cause (c ∷ cs) (r ∷ rs) = WidenedBy cause c r × AreWidenedBy cause cs rs

-- and of all lists' answers
abbrev pub AllWidenedBy : Type 0 → List (List Call) → List (List (Result Reply TreeFault)) → Type 0
AllWidenedBy cause [] answers = Unit {0}
AllWidenedBy cause (cs ∷ lists) [] = Unit {0}
AllWidenedBy cause (cs ∷ lists) (rs ∷ answers) = AreWidenedBy cause cs rs × AllWidenedBy cause lists answers

-- pages of n words in which leaves held together did not reach a range's bound, as many as can be held,
-- which are sixteen: it has page 0,
-- these leaves, one behind them and the root, so nineteen pages, and the puts of new keys account for its nodes, from
-- the next word at the start on. With
-- X pages below the next one at the start, N of them nodes, and with G such puts, 13 * 19 is at most 28 * N + 2 * G +
-- 13 * X where a page has 64 words,
-- and 125 * 19 at most 252 * N + 2 * G + 125 * X where it has 512: no difference is taken, so X may be above 19
pub record IsWidened (n : ℕ) (pages : List (List ℕ)) (end : View Said) : Type 0 where
  pub enough : 19 ≤ length pages
  pub cause : (half_of n - 1) * 19 ≤ 2 * half_of n * node_count (fixed n) pages + 2 * news end.seen
      + (half_of n - 1) * end.start.next
