use Rattle.vm_build.proofs.Stack.{node_pushed}
use Rattle.vm_build.proofs.levels.push_level.Goals as goal

pub loop-n-preserved : goal.loop-n-preserved
loop-n-preserved g c = node_pushed g.row.N c.requires.sized c.args.pages.now.items c.loop-n.pages.items
    c.push.new.self.items c.args.level c.args.entries.now c.loop-n.n c.node_of.result c.in_ok-push.ensures.items
    c.loop-n.invariant c.node_of.ensures
