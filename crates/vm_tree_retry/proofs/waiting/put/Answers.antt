use Rattle.std.proofs.Common.{inl}
use Rattle.vm_tree_round.specs.from_vm_step.Prelude.{view}
use Rattle.vm_tree_round.specs.from_vm_tree_read.Waiting.{AreRounds as rounds}
use Rattle.vm_tree_round.proofs.from_vm_tree_read.Losing.{loses-then}
use Rattle.vm_tree_round.proofs.from_vm_tree_read.Rounds.{tried-none, tried-round}
use Rattle.vm_tree_round.specs.from_vm_tree_split.Splits.{KeepsLocksOnly}
use Rattle.vm_tree_round.proofs.from_vm_tree_split.Framing.{keeps-self, keeps-then}
use Rattle.vm_tree_round.specs.Rounds.{IsPutRound}
use Rattle.vm_tree_retry.proofs.Lasting.{keeps-last, replied}
use Rattle.vm_tree_retry.proofs.waiting.put.Goals as goal

pub loop-init : goal.loop-init
loop-init g c = tried-none _ _ (keeps-self _, rounds.none) c.requires.ready c.requires.frames

pub loop-preserved-in-Soon : goal.loop-preserved-in-Soon
loop-preserved-in-Soon g c =
    let i = c.loop.invariant in
    let k = c.put_round.ensures in
    let told = c.in-Soon.ensures.told in
    tried-round i c.put_round.new.pass c.put_round.new.iface k.goes k.held k.lost k.iface
    (keeps-then _ _ _ i.left.0 told.0, rounds.further _ _ i.left.1 told.1)

pub loop-preserved : goal.loop-preserved
loop-preserved g c =
    let i = c.loop.invariant in
    let k = c.put_round.ensures in
    let told = c.in-Later.ensures.told in
    tried-round i c.put_round.new.pass c.put_round.new.iface k.goes k.held k.lost k.iface
    (keeps-then _ _ _ i.left.0 told.0, rounds.further _ _ i.left.1 told.1)

pub returns-in-Done-clause-ok : goal.returns-in-Done-clause-ok
returns-in-Done-clause-ok g c =
    let left = c.loop.invariant.left in
    replied g.K.Kind.plain g.K.Kind.layout KeepsLocksOnly (IsPutRound g.K.Kind.plain g.K.Kind.layout g.K.Kind.spare) _
    _ _ _ left (keeps-last _ _ left.0) (inl (c.in-Done.ensures.told.0, λ none. none))

pub returns-in-Done-clause-lost : goal.returns-in-Done-clause-lost
returns-in-Done-clause-lost g c =
    loses-then c.args.iface.now.frames c.loop.iface.frames c.put_round.new.iface.frames (view c.args.pass.now)
    (view c.loop.pass) (view c.put_round.new.pass) c.loop.invariant.lost c.put_round.ensures.lost

pub returns-in-Failed-clause-err : goal.returns-in-Failed-clause-err
returns-in-Failed-clause-err g c =
    let i = c.loop.invariant in
    let told = c.in-Failed.ensures.told in
    record {
      tried = view c.loop.pass;
      rounds = i.left.1;
      waits = i.left.0;
      why = told.1;
      leaves = keeps-then _ _ _ i.left.0 told.0;
    }

pub returns-in-Failed-clause-lost : goal.returns-in-Failed-clause-lost
returns-in-Failed-clause-lost g c =
    loses-then c.args.iface.now.frames c.loop.iface.frames c.put_round.new.iface.frames (view c.args.pass.now)
    (view c.loop.pass) (view c.put_round.new.pass) c.loop.invariant.lost c.put_round.ensures.lost
