-- The words that move up are read before they are written.
use Rattle.std.proofs.Common.{◌-◌, ◌∙◌, min, arith}
use Rattle.vm_tree_model.specs.Fixed.{capacity}
use Rattle.vm_node.proofs.Sizes.{eight_some}
use Rattle.vm_node.proofs.Making.{above_more, above_all, into_reads}
use Rattle.vm_node.proofs.edit.make_into.Goals as goal

pub loop-done-preserved : goal.loop-done-preserved
loop-done-preserved g c =
    above_more c.loop-done.done (g.row.N - 1 - c.loop-done.done) c.loop-done.invariant (omega arith)
    (c.word_into-word.ensures ∙ into_reads c.loop-done.page c.args.page.now c.args.at
    (min c.args.count (capacity g.row.N)) c.args.key c.args.value (g.row.N - 1 - c.loop-done.done)
    (λ k le. c.loop-done.invariant.left k (omega arith)))
    c.set.ensures.words c.set.ensures.length

pub returns : goal.returns
returns g c = above_all (eight_some g.row.N c.requires) c.loop-done.invariant (omega arith)
