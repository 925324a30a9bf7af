-- The walk over the pages of an image, and the first reason why they are no tree.
use Rattle.std.specs.Prelude.{ℕ, zero, suc, ◌+◌, List, [], ◌∷◌, ◌++◌, length, drop, set, replicate, slice_index}
use Rattle.std.specs.Prelude.{slice_index_or, Option, Some, None, Result, Ok, Err, Bool, true, false, not, ◌&&◌}
use Rattle.std.specs.Prelude.{if◌then◌else◌}
use Rattle.vm_map.specs.Map.{Pairs}
use Rattle.vm_tree_model.specs.Layout.{Layout}
use Rattle.vm_tree_model.specs.Tree.{page_at, leaf_part}
use Rattle.vm_tree_model.specs.Walk.{Slot, slots_below, all_zero, is_free, slot_fault, meta_fault}

-- the rows, or the page that is at fault and why
abbrev pub Walked : Type 0
Walked = Result Pairs (ℕ × ℕ)

-- the fault of a page, where it has one; else what the walk comes to
abbrev pub fault_or : ℕ → Option ℕ → Walked → Walked
fault_or page None rest = rest
fault_or page (Some why) rest = Err (page, why)

-- the first of the pages, numbered from p on, that the walk did not visit and that is not free
abbrev pub first_lost : Layout → List (List ℕ) → List Bool → ℕ → Option ℕ
first_lost L [] visited p = None
first_lost L (w ∷ ws) visited p =
    if not (slice_index_or visited p false) && not (is_free L w) then Some p else first_lost L ws visited (p + 1)

abbrev pub lost_or : Option ℕ → Walked → Walked
lost_or None rest = rest
lost_or (Some page) rest = Err (page, 9)

-- the walk from where these slots are still to be filled, these pages were visited and these rows were met; so many visits are left
unfoldable pub walk : Layout → List (List ℕ) → ℕ → List Slot → List Bool → Pairs → Walked
walk L pages left [] visited rows = lost_or (first_lost L (drop 1 pages) visited 1) (Ok rows)
walk L pages zero (slot ∷ slots) visited rows = Err (slot.page, 3)
walk L pages (suc left) (slot ∷ slots) visited rows =
    fault_or slot.page (slot_fault L (length pages) (slice_index_or visited slot.page false) slot (page_at pages slot.page))
    (walk L pages left (slots_below L slot (page_at pages slot.page) ++ slots) (set visited slot.page true)
    (rows ++ leaf_part L (page_at pages slot.page)))

-- the root's slot, by page 0
abbrev pub root_slot : Layout → List ℕ → Slot
root_slot L words = record { page = slice_index words 1; level = slice_index words 2; low = 0; high = L.key_end }

-- how many pages were not visited
abbrev pub unseen_pages : List Bool → ℕ
unseen_pages [] = 0
unseen_pages (true ∷ bs) = unseen_pages bs
unseen_pages (false ∷ bs) = suc (unseen_pages bs)

-- what the walk comes to from there: no page is visited twice, so as many visits are left as pages are unvisited
abbrev pub comes_to : Layout → List (List ℕ) → List Slot → List Bool → Pairs → Walked
comes_to L pages slots visited rows = walk L pages (unseen_pages visited) slots visited rows

-- what the walk comes to from the root's slot
abbrev pub first_outcome : Layout → List (List ℕ) → Walked
first_outcome L pages = comes_to L pages (root_slot L (page_at pages 0) ∷ []) (replicate (length pages) false) []

-- the whole walk: page 0, the tree, the other pages
abbrev pub walked : Layout → List (List ℕ) → Walked
walked L pages = fault_or 0 (meta_fault L (length pages) (page_at pages 0)) (first_outcome L pages)

-- the page at fault and why, of the first reason that the walk meets
abbrev pub fault_of : Walked → Option (ℕ × ℕ)
fault_of (Ok rows) = None
fault_of (Err fault) = Some fault

-- the page at fault and its first reason, where the walk meets one
abbrev pub reason : Layout → List (List ℕ) → Option (ℕ × ℕ)
reason L pages = fault_of (walked L pages)

-- how many pages are not all zero
abbrev pub used_pages : List (List ℕ) → ℕ
used_pages [] = 0
used_pages (w ∷ ws) = (if all_zero w then 0 else 1) + used_pages ws
