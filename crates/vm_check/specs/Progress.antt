-- How far a walk in the program has come.
use Rattle.std.specs.Prelude.{◌≡◌, ℕ, ◌<◌, Bool, List, [], ◌∷◌, length, map, reverse, Option, Some, Err}
use Rattle.vm_map.specs.Map.{Pairs}
use Rattle.vm_tree_model.specs.Layout.{Layout}
use Rattle.vm_tree_model.specs.Walk.{Slot}
use Rattle.vm_tree_model.specs.Reason.{Walked, comes_to, unseen_pages}
use Rattle.vm_check.specs.Places.{place}
use Rattle.vm_check.specs.declared.walk.Walk.{Walk}
use Rattle.vm_check.specs.declared.fault.CheckFault.{CheckFault}
use Rattle.vm_check.specs.declared.fault.CheckFault.TheVariants.{BadPage, Memory}

-- the places still to be filled, the next one first; which pages were visited; the rows met
pub record WalkState : Type 0 where
  pub slots : List Slot
  pub visited : List Bool
  pub rows : Pairs

-- where a walk is, with numbers for its keys
abbrev pub reached : {K R : Type 0} → (K → ℕ) → ℕ → (R → ℕ × ℕ) → Walk K R → WalkState
reached rank end pair walk = record {
  slots = map (place rank end) (reverse walk.slots.items);
  visited = walk.visited.items;
  rows = map pair walk.rows.items;
}

-- the slots name pages of the image
abbrev pub AllInside : ℕ → List Slot → Type 0
AllInside pages [] = Unit {0}
AllInside pages (slot ∷ slots) = (slot.page < pages) × AllInside pages slots

-- there is a flag for each page, and the slots name pages of the image
pub record IsGoing (pages : List (List ℕ)) (at : WalkState) : Type 0 where
  pub flags : length at.visited ≡ length pages
  pub inside : AllInside (length pages) at.slots

-- what the walk comes to from here
abbrev pub outcome : Layout → List (List ℕ) → WalkState → Walked
outcome L pages at = comes_to L pages at.slots at.visited at.rows

-- what it comes to if this slot is still to be filled first
abbrev pub outcome_at : Layout → List (List ℕ) → Slot → WalkState → Walked
outcome_at L pages slot at = comes_to L pages (slot ∷ at.slots) at.visited at.rows

-- one visit further: the outcome is the same, and one page fewer is unvisited
pub record IsNextVisit (L : Layout) (pages : List (List ℕ)) (slot : Slot) (old new : WalkState) : Type 0 where
  pub going : IsGoing pages new
  pub same : outcome_at L pages slot old ≡ outcome L pages new
  pub fewer : unseen_pages new.visited < unseen_pages old.visited

-- the fault is the one that the walk comes to, or want of memory
abbrev pub IsFaultOf : Walked → CheckFault → Type 0
IsFaultOf walked (BadPage page why) = walked ≡ Err (page, why)
IsFaultOf walked Memory = Unit {0}

-- the fault is that of the page that was lost
abbrev pub IsOrphan : Option ℕ → CheckFault → Type 0
IsOrphan lost (BadPage page why) = (lost ≡ Some page) × (why ≡ 9)
IsOrphan lost Memory = ⊥
