-- What a del comes to that may merge: a merge was made, or why not.
use Rattle.std.specs.Prelude.{[], ◌*◌, ◌∷◌, ◌≡◌, ◌≢◌, ◌≤◌, ◌⊎◌, Bool, length, List, ℕ}
use Rattle.vm_map.specs.declared.call.Said.{Said}
use Rattle.vm_tree_model.specs.{Layout.Layout, Layout.size}
use Rattle.vm_tree_model.specs.Page.{IsLeaf, node_of, pairs_of}
use Rattle.vm_tree_join.specs.from_vm_step.Prelude.{UnlockedExpected, View}
use Rattle.vm_tree_join.specs.from_vm_step.declared_saw_Saw.{Saw}
use Rattle.vm_tree_join.specs.from_vm_guard.{declared_opt_OptGuard.OptGuard}
use Rattle.vm_tree_join.specs.from_vm_guard.declared_deny_Deny_TheVariants as denies
use Rattle.vm_tree_laws.specs.May.{IsEdit}
use Rattle.vm_tree_join.specs.from_vm_tree_rule.{Above.IsAbove, declared_above_Above.Above, Leaves.ReadsOn, Seeks.HasRead, Shown.IsShown}
use Rattle.vm_tree_join.specs.from_vm_tree_rule.declared_above_Above_TheVariants as aboves
use Rattle.vm_tree_join.specs.from_vm_tree_split.{Prepares.IsLockDenied, Splits.KeepsLocksOnly}
use Rattle.vm_tree_join.specs.Made.{IsMergeMade}
use Rattle.vm_tree_merge.specs.Beside.{AreInOrder, IsNeighbour}

-- The pages that a merge releases, in order, and those that it frees: the parent and both leaves, of which it frees
-- the right one; but page 0 as well, and the parent is freed,
-- where the parent is the root and has just these two children
abbrev pub MergesPages : Layout → Above → OptGuard → List ℕ → OptGuard → OptGuard → List OptGuard → List ℕ → Type 0
MergesPages L aboves.Nothing up over left right guards freed = ⊥
MergesPages L (aboves.Node node) up over left right guards freed =
    (up ≡ node) × (guards ≡ up ∷ left ∷ right ∷ []) × (freed ≡ right.pid ∷ [])
MergesPages L (aboves.Root meta root) up over left right guards freed =
    (up ≡ root) × (((length (pairs_of L over) ≢ 2) × (guards ≡ up ∷ left ∷ right ∷ []) × (freed ≡ right.pid ∷ []))
    ⊎ ((length (pairs_of L over) ≡ 2) × (guards ≡ meta ∷ up ∷ left ∷ right ∷ []) × (freed ≡ up.pid ∷ right.pid ∷ [])))

module _ {S : Type 0} (plain : S → Said) (L : Layout) where
  -- A del took the pair of its key out of a leaf, which keeps few, and made it one with its neighbour. What the call
  -- read stands in `found`; `rest` is the leaf
  -- without the key
  pub record IsMergeDone (key : ℕ) (said : Said) (v w : View S) : Type 0 where
    pub above : Above
    pub leaf : OptGuard
    pub up : OptGuard
    pub other : OptGuard
    pub over : List ℕ
    pub page : List ℕ
    pub rest : List ℕ
    pub behind : Bool
    pub low : ℕ
    pub left : ℕ
    pub separator : ℕ
    pub right : ℕ
    pub found : View S
    pub earlier : ReadsOn v found
    pub stands : IsAbove L v key above leaf.pid found
    pub neighbour : IsNeighbour L v key up leaf.pid over other behind low left separator right found
    pub read : HasRead found leaf.pid page
    pub edit : IsLeaf L page → IsEdit L page rest said.call said.reply
    pub sparse : 4 * size L (node_of L rest) ≤ L.room
    pub one : OptGuard
    pub two : OptGuard
    pub order : AreInOrder behind leaf other one two
    pub guards : List OptGuard
    pub freed : List ℕ
    pub shape : MergesPages L above up over one two guards freed
    pub says : S
    pub says_is : plain says ≡ said
    pub made : IsMergeMade plain L guards freed says found w

module _ {X : Type 0} (L : Layout) where
  -- pages that the call had read were to be locked for a merge, and one of them was lost: those locked before were
  -- released again, so nothing is written, and nothing
  -- said
  pub record IsLockLost (v : View X) (saw : Saw) (w : View X) : Type 0 where
    pub guards : List OptGuard
    pub found : View X
    pub earlier : ReadsOn v found
    pub denied : IsLockDenied L guards (denies.Again saw) found w
    pub keeps : KeepsLocksOnly v w
    pub shown : IsShown UnlockedExpected v saw w
