-- A new root is what its header and its two pairs say.
use Rattle.std.proofs.Common.{◌≡◌, ℕ, ◌≤◌, slice_index, ap, ◌∙◌}
use Rattle.vm_tree_model.specs.Fixed.{fixed}
use Rattle.vm_node.proofs.SplitWords.{zeros}
use Rattle.vm_inner.proofs.NewRoots.{new_root_is}
use Rattle.vm_inner.proofs.InnerNodes.{root_inner}
use Rattle.vm_inner.proofs.root.new_root.Goals as goal

pub returns-clause-root : goal.returns-clause-root
returns-clause-root g c =
    let h = c.write_header.ensures in
    let zero_at : (k : ℕ) → 6 ≤ k → slice_index c.write_header.new.page k ≡ 0 = λ k ge. h.rest k ge
    ∙ ap (λ w. slice_index w k) c.zero.ensures ∙ zeros g.row.N k in
    let is = new_root_is g.row.N c.requires c.write_header.new.page c.args.level c.args.left c.args.separator
    c.args.right h.words h.tag h.count h.low h.high h.endless h.level zero_at in
    rw (c.set-3.ensures.words, c.set-2.ensures.words, c.set.ensures.words) is

pub returns-clause-inner : goal.returns-clause-inner
returns-clause-inner g c some above = root_inner (fixed g.row.N) _ _ _ _ _ (returns-clause-root g c) some above c.ranges.separator.fits
