-- The numbers that exports answer, and what is told beside them.
use Rattle.std.specs.Prelude.{Err, None, Ok, Option, Result, Some, ℕ}
use Rattle.vm_map.specs.declared.call.{Reply.Reply}
use Rattle.vm_map.specs.declared.call.Reply.TheVariants.{Gone, Got, Many, Swapped, Was, Wide, Win}
use Rattle.vm_map.specs.declared.call.Swap.TheVariants as swaps
use Rattle.vm_face.specs.from_vm_tree_rule.declared_fault_TreeFault.{TreeFault}
use Rattle.vm_face.specs.from_vm_tree_rule.declared_fault_TreeFault_TheVariants as faults
use Rattle.vm_face.specs.declared.store.NoHand.{NoHand}
use Rattle.vm_face.specs.declared.store.NoHand.TheVariants as hands
use Rattle.vm_face.specs.declared.image.Opening.{Opening}
use Rattle.vm_face.specs.declared.image.Opening.TheVariants as openings
use Rattle.vm_c.specs.declared.answers.CallTold.{CallTold}

abbrev pub value_telling : Option ℕ → CallTold
value_telling None = record { value = 0; page = 0; had = 0 }
value_telling (Some value) = record { value = value; page = 0; had = 1 }

abbrev pub page_telling : ℕ → CallTold
page_telling page = record { value = 0; page = page; had = 0 }

-- 0 for a reply, and its value; 1 where the rounds were used up; 2 to 5 for a fault, and its page or how many pages
-- there are; 6 where a swap found another value, which is told, or none; 15 where a range has too many leaves, and
-- the key up to which they reach
abbrev pub answer_for : Result (Option Reply) TreeFault → ℕ × CallTold
answer_for (Ok (Some (Got value))) = (0, value_telling value)
answer_for (Ok (Some (Was value))) = (0, value_telling value)
answer_for (Ok (Some (Gone value))) = (0, value_telling value)
answer_for (Ok (Some (Win window))) = (0, page_telling 0)
answer_for (Ok (Some (Swapped swaps.Done))) = (0, page_telling 0)
answer_for (Ok (Some (Swapped (swaps.Kept value)))) = (6, value_telling (Some value))
answer_for (Ok (Some (Swapped swaps.Missing))) = (6, page_telling 0)
answer_for (Ok (Some (Many span))) = (0, page_telling 0)
answer_for (Ok (Some (Wide reach))) = (15, value_telling (Some reach))
answer_for (Ok None) = (1, page_telling 0)
answer_for (Err (faults.Device page count)) = (2, page_telling page)
answer_for (Err (faults.Full pages)) = (3, page_telling pages)
answer_for (Err (faults.Worn page)) = (4, page_telling page)
answer_for (Err (faults.Damaged page)) = (5, page_telling page)

-- 7 to 10 for a reason why there is no store; of pages that are no tree, the page at fault and the number of the
-- reason are told
abbrev pub refusal_for : Opening → ℕ × CallTold
refusal_for (openings.Length len) = (7, page_telling 0)
refusal_for openings.Frames = (8, page_telling 0)
refusal_for (openings.Page pid why) = (9, record { value = why; page = pid; had = 0 })
refusal_for openings.Memory = (10, page_telling 0)

-- 11 or 10 for a reason why there is no hand
abbrev pub refused_hand : NoHand → ℕ
refused_hand hands.Crowded = 11
refused_hand hands.Memory = 10
