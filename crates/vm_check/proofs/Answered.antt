-- What the walk comes to is what the checker answers.
use Rattle.std.proofs.Common.{◌≡◌, ℕ, ◌∷◌, List, [], length, map, reverse, drop, Option, Some, Ok, Err, refl, sym, ap, ◌∙◌}
use Rattle.vm_tree_model.specs.Layout.{Layout, IsLayout}
use Rattle.vm_tree_model.specs.Tree.{page_at}
use Rattle.vm_tree_model.specs.Walk.{meta_fault}
use Rattle.vm_tree_model.specs.Reason.{Walked, lost_or, first_lost, walk, walked, fault_of}
use Rattle.vm_check.specs.Places.{place}
use Rattle.vm_check.specs.Progress.{outcome, outcome_at, IsFaultOf, IsOrphan, reached}
use Rattle.vm_check.specs.declared.slot.NodeSlot.{NodeSlot}
use Rattle.vm_check.specs.Rows.{IsRefusedImage}
use Rattle.vm_check.specs.declared.walk.Walk.{Walk}
use Rattle.vm_check.specs.declared.fault.CheckFault.{CheckFault}
use Rattle.vm_check.specs.declared.fault.CheckFault.TheVariants.{BadPage, Memory}
use Rattle.vm_tree_model.proofs.Theorem.{walk_from_tree}

-- a fault of the walk refuses the image
pub refused : (L : Layout) (laws : IsLayout L) (pages : List (List ℕ)) (fault : CheckFault)
    → IsFaultOf (walked L pages) fault → IsRefusedImage L pages fault
refused L laws pages (BadPage page why) is = (ap fault_of is, λ tree. (let rows = walk_from_tree L laws pages tree in cc))
refused L laws pages Memory is = tt

pub refused_at : (L : Layout) (laws : IsLayout L) (pages : List (List ℕ)) (fault : CheckFault) (w : Walked)
    → w ≡ walked L pages → IsFaultOf w fault → IsRefusedImage L pages fault
refused_at L laws pages fault w same is = refused L laws pages fault (rw same at is)

pub meta_refused : (L : Layout) (pages : List (List ℕ)) (why : ℕ)
    → meta_fault L (length pages) (page_at pages 0) ≡ Some why → walked L pages ≡ Err (0, why)
meta_refused L pages why is = rw is refl

module _ {K R : Type 0} (L : Layout) (pages : List (List ℕ)) (rank : K → ℕ) (end : ℕ) (pair : R → ℕ × ℕ) where
  -- the next slot was taken from the stack
  pub taken : (s : NodeSlot K) (old new : Walk K R) → reverse old.slots.items ≡ s ∷ reverse new.slots.items → new.visited ≡ old.visited
      → new.rows ≡ old.rows → outcome L pages (reached rank end pair old) ≡ outcome_at L pages (place rank end s) (reached rank end pair new)
  taken s old new slots visited rows = rw (slots, visited, rows) refl

  -- no slot is left
  pub ended : (w : Walk K R) → reverse w.slots.items ≡ [] → outcome L pages (reached rank end pair w)
      ≡ lost_or (first_lost L (drop 1 pages) w.visited.items 1) (Ok (map pair w.rows.items))
  unfolding walk
  ended w none = rw none refl

pub lost_refused : (L : Layout) (laws : IsLayout L) (pages : List (List ℕ)) (fault : CheckFault) (lost : Option ℕ)
    (rest : Walked) → lost_or lost rest ≡ walked L pages → IsOrphan lost fault → IsRefusedImage L pages fault
lost_refused L laws pages (BadPage page why) lost rest same is =
    refused L laws pages (BadPage page why) (sym same ∙ (rw (is.0, is.1) refl))
lost_refused L laws pages Memory lost rest same is = absurd is
