use Rattle.std.proofs.Common.{refl, arith}
use Rattle.vm_build.proofs.Counting.{counted_first, counted_next, counted_last}
use Rattle.vm_build.proofs.building.needed.Goals as goal

pub loop-nodes-init : goal.loop-nodes-init
loop-nodes-init c = counted_first c.args.words c.requires c.args.pairs c.nodes_for-nodes.result _
    (omega (arith, c.ranges.pairs.fits)) c.nodes_for-nodes.ensures refl

pub loop-nodes-preserved : goal.loop-nodes-preserved
loop-nodes-preserved c = counted_next c.args.words c.requires c.args.pairs c.loop-nodes.nodes c.loop-nodes.pages
    c.nodes_for-nodes-in-loop-nodes.result c.loop-nodes.invariant c.loop-nodes-test.true
    c.nodes_for-nodes-in-loop-nodes.ensures

pub returns : goal.returns
returns c = counted_last c.args.words c.requires c.args.pairs c.loop-nodes.nodes c.loop-nodes.pages
    c.loop-nodes.invariant c.loop-nodes-test.false
