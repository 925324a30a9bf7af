-- The words that move down are read before they are written.
use Rattle.std.proofs.Common.{◌∙◌, min, arith}
use Rattle.vm_tree_model.specs.Fixed.{capacity}
use Rattle.vm_node.proofs.Sizes.{eight_some}
use Rattle.vm_node.proofs.Making.{below_more, below_all, out_reads}
use Rattle.vm_node.proofs.edit.make_out.Goals as goal

pub loop-i-preserved : goal.loop-i-preserved
loop-i-preserved g c =
    below_more c.loop-i.invariant (omega arith)
    (c.word_out-word.ensures ∙ out_reads c.loop-i.page c.args.page.now c.args.at (min c.args.count (capacity g.row.N))
    c.loop-i.i c.loop-i.invariant.left)
    c.set.ensures.words c.set.ensures.length

pub returns : goal.returns
returns g c = below_all (eight_some g.row.N c.requires) c.loop-i.invariant (omega arith)
