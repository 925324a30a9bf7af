-- What keeps workers' answers: a value of any type, which stands for the answers that it was given, in order.
use Rattle.std.specs.Prelude.{[], ◌+◌, ◌∷◌, ◌≤◌, Err, length, List, Ok, Result, ℕ}
use Rattle.vm_map.specs.{declared.call.Call.Call, declared.call.Reply.Reply}
use Rattle.vm_map.specs.declared.call.Call.TheVariants.{Del, Get, Put, Range, Swap, Window}
use Rattle.vm_map.specs.declared.call.Reply.TheVariants.{Gone, Got, Many, Swapped, Was, Wide, Win}
use Rattle.vm_tree_range.specs.from_vm_tree_rule.declared_fault_TreeFault.{TreeFault}
use Rattle.vm_calls.specs.Spans.{ranges_asked}

-- how many answers more are taken, and how many windows and how many ranges' pairs among them
pub record Room : Type 0 where
  pub answers : ℕ
  pub windows : ℕ
  pub spans : ℕ

-- 1 for an answer that is a window
abbrev pub windows_of : Result Reply TreeFault → ℕ
windows_of (Ok (Got found)) = 0
windows_of (Ok (Was old)) = 0
windows_of (Ok (Gone old)) = 0
windows_of (Ok (Win window)) = 1
windows_of (Ok (Swapped outcome)) = 0
windows_of (Ok (Many span)) = 0
windows_of (Ok (Wide reach)) = 0
windows_of (Err fault) = 0

-- 1 for an answer that has the pairs of a range
abbrev pub spans_of : Result Reply TreeFault → ℕ
spans_of (Ok (Got found)) = 0
spans_of (Ok (Was old)) = 0
spans_of (Ok (Gone old)) = 0
spans_of (Ok (Win window)) = 0
spans_of (Ok (Swapped outcome)) = 0
spans_of (Ok (Many span)) = 1
spans_of (Ok (Wide reach)) = 0
spans_of (Err fault) = 0

-- how many of the calls ask for a window
abbrev pub windows_asked : List Call → ℕ
windows_asked [] = 0
windows_asked (Get key ∷ calls) = windows_asked calls
windows_asked (Put key value ∷ calls) = windows_asked calls
windows_asked (Del key ∷ calls) = windows_asked calls
windows_asked (Window start most ∷ calls) = 1 + windows_asked calls
windows_asked (Swap key want value ∷ calls) = windows_asked calls
windows_asked (Range low bound ∷ calls) = windows_asked calls

-- room for an answer to each of the calls, and for a window or a range's pairs to each that asks for them
pub record IsRoomFor (calls : List Call) (room : Room) : Type 0 where
  pub answers : length calls ≤ room.answers
  pub windows : windows_asked calls ≤ room.windows
  pub spans : ranges_asked calls ≤ room.spans
