-- Less room than a pair may take is left of the full node, which stands in its form, and whose keys rise.
use Rattle.std.proofs.Common.{◌<◌, ⊎_elim, arith, List, ℕ}
use Rattle.vm_tree_model.specs.Layout.{IsClean, IsFullNode}
use Rattle.vm_tree_model.specs.Page.{node_of}
use Rattle.vm_bytes_form.specs.Bytes.{bytes}
use Rattle.vm_bytes_node.specs.Room.{spare_words}
use Rattle.vm_bytes_edit.proofs.RoomLaw.{spare_is}
use Rattle.vm_bytes_tree.proofs.keys.BytesKeysEdits.split.Goals as goal

full : (words : List ℕ) → spare_words words < 10 → IsClean bytes words → IsFullNode bytes (node_of bytes words)
full words less clean = omega (arith, less, spare_is words clean)

pub returns-clause-halves : goal.returns-clause-halves
returns-clause-halves c =
    let page = c.args.page.now in
    let halves = c.split-separator.ensures.halves in
    ⊎_elim (λ leaf. halves leaf.clean (full page c.requires.full leaf.clean) _ _ leaf.node.rises)
    (λ inner. halves inner.clean (full page c.requires.full inner.clean) _ _ inner.node.rises)

pub returns-clause-left_leaf : goal.returns-clause-left_leaf
returns-clause-left_leaf c leaf = (c.split-separator.ensures.leaves leaf (full c.args.page.now c.requires.full leaf.clean)).0

pub returns-clause-right_leaf : goal.returns-clause-right_leaf
returns-clause-right_leaf c leaf = (c.split-separator.ensures.leaves leaf (full c.args.page.now c.requires.full leaf.clean)).1
