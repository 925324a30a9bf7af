-- A node's kind by its tag.
use Rattle.std.proofs.Common.{⊎_elim, arith, List, ℕ}
use Rattle.vm_tree_model.specs.Layout.{Layout}
use Rattle.vm_tree_model.specs.Page.{IsInner, IsLeaf}
use Rattle.vm_tree_join.specs.Locks.{IsKindOf}

pub inner-of : (L : Layout) (words : List ℕ) → IsKindOf L 3 words → IsInner L words
inner-of L words k = ⊎_elim (λ (leaf : IsLeaf L words). let tag = k.0 in let two = leaf.node.tag in
    absurd (omega (arith, tag, two))) (λ (inner : IsInner L words). inner) k.1

pub leaf-of : (L : Layout) (words : List ℕ) → IsKindOf L 2 words → IsLeaf L words
leaf-of L words k = ⊎_elim (λ (leaf : IsLeaf L words). leaf) (λ (inner : IsInner L words). let tag = k.0 in
    let three = inner.node.tag in absurd (omega (arith, tag, three))) k.1
