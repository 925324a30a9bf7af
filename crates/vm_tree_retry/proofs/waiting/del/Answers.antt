use Rattle.vm_tree_round.specs.from_vm_step.Prelude.{view}
use Rattle.vm_tree_round.specs.from_vm_tree_read.Waiting.{AreRounds as rounds}
use Rattle.vm_tree_round.proofs.from_vm_tree_read.Losing.{loses-then}
use Rattle.vm_tree_round.proofs.from_vm_tree_read.Rounds.{tried-none, tried-round}
use Rattle.vm_tree_round.proofs.from_vm_tree_split.Framing.{keeps-self, keeps-then}
use Rattle.vm_tree_retry.proofs.Deleting.{del-replied}
use Rattle.vm_tree_retry.proofs.waiting.del.Goals as goal

pub loop-init : goal.loop-init
loop-init g c = tried-none _ _ (keeps-self _, rounds.none) c.requires.ready c.requires.frames

pub loop-preserved-in-Soon : goal.loop-preserved-in-Soon
loop-preserved-in-Soon g c =
    let i = c.loop.invariant in
    let k = c.del_round.ensures in
    let told = c.in-Soon.ensures.told in
    tried-round i c.del_round.new.pass c.del_round.new.iface k.goes k.held k.lost k.iface
    (keeps-then _ _ _ i.left.0 told.0, rounds.further _ _ i.left.1 told.1)

pub loop-preserved : goal.loop-preserved
loop-preserved g c =
    let i = c.loop.invariant in
    let k = c.del_round.ensures in
    let told = c.in-Later.ensures.told in
    tried-round i c.del_round.new.pass c.del_round.new.iface k.goes k.held k.lost k.iface
    (keeps-then _ _ _ i.left.0 told.0, rounds.further _ _ i.left.1 told.1)

pub returns-in-Done-clause-ok : goal.returns-in-Done-clause-ok
returns-in-Done-clause-ok g c =
    let left = c.loop.invariant.left in
    del-replied g.K.Kind.plain g.K.Kind.layout _ _ _ _ _ left.0 left.1 c.in-Done.ensures.told

pub returns-in-Done-clause-lost : goal.returns-in-Done-clause-lost
returns-in-Done-clause-lost g c =
    loses-then c.args.iface.now.frames c.loop.iface.frames c.del_round.new.iface.frames (view c.args.pass.now)
    (view c.loop.pass) (view c.del_round.new.pass) c.loop.invariant.lost c.del_round.ensures.lost

pub returns-in-Failed-clause-err : goal.returns-in-Failed-clause-err
returns-in-Failed-clause-err g c =
    let i = c.loop.invariant in
    let told = c.in-Failed.ensures.told in
    record {
      tried = view c.loop.pass;
      rounds = i.left.1;
      waits = i.left.0;
      why = told.1;
      leaves = keeps-then _ _ _ i.left.0 told.0;
    }

pub returns-in-Failed-clause-lost : goal.returns-in-Failed-clause-lost
returns-in-Failed-clause-lost g c =
    loses-then c.args.iface.now.frames c.loop.iface.frames c.del_round.new.iface.frames (view c.args.pass.now)
    (view c.loop.pass) (view c.del_round.new.pass) c.loop.invariant.lost c.del_round.ensures.lost
