use Rattle.std.proofs.Common.{◌∙◌}
use Rattle.vm_tree_rule.proofs.from_vm_step.Going.{goes-then}
use Rattle.vm_tree_rule.specs.from_vm_step.Prelude.{view}
use Rattle.vm_tree_read.proofs.Lasting.{replied, waits-self, waits-then}
use Rattle.vm_tree_read.proofs.Losing.{loses-then}
use Rattle.vm_tree_read.proofs.Rounds.{tried-none, tried-round}
use Rattle.vm_tree_read.specs.Waiting.{AreRounds as rounds}
use Rattle.vm_tree_read.proofs.waiting.window_said.Goals as goal

pub loop-init : goal.loop-init
loop-init g c = tried-none _ _ (waits-self _, rounds.none) c.requires.ready c.requires.frames

pub loop-preserved-in-Soon : goal.loop-preserved-in-Soon
loop-preserved-in-Soon g c =
    let i = c.loop.invariant in
    let k = c.window_round.ensures in
    let told = c.in-Soon.ensures.told in
    tried-round i c.window_round.new.pass c.window_round.new.iface k.goes k.held k.lost k.iface
    (waits-then _ _ _ i.left.0 told.0, rounds.further _ _ i.left.1 told.1)

pub loop-preserved : goal.loop-preserved
loop-preserved g c =
    let i = c.loop.invariant in
    let k = c.window_round.ensures in
    let told = c.in-Later.ensures.told in
    tried-round i c.window_round.new.pass c.window_round.new.iface k.goes k.held k.lost k.iface
    (waits-then _ _ _ i.left.0 told.0, rounds.further _ _ i.left.1 told.1)

pub returns-in-Done-clause-ok : goal.returns-in-Done-clause-ok
returns-in-Done-clause-ok g c =
    let told = c.in-Done.ensures.told in
    (told.0, told.1, replied g.K.Kind.plain g.K.Kind.layout _ _ _ _ c.loop.invariant.left told.2)

pub returns-in-Done-clause-lost : goal.returns-in-Done-clause-lost
returns-in-Done-clause-lost g c =
    loses-then c.args.iface.now.frames c.loop.iface.frames c.window_round.new.iface.frames (view c.args.pass.now)
    (view c.loop.pass) (view c.window_round.new.pass) c.loop.invariant.lost c.window_round.ensures.lost

pub returns-in-Failed-clause-err : goal.returns-in-Failed-clause-err
returns-in-Failed-clause-err g c =
    let i = c.loop.invariant in
    let told = c.in-Failed.ensures.told in
    record {
      tried = view c.loop.pass;
      rounds = i.left.1;
      waits = i.left.0;
      why = told.1;
      leaves = waits-then _ _ _ i.left.0 told.0;
    }

pub returns-in-Failed-clause-lost : goal.returns-in-Failed-clause-lost
returns-in-Failed-clause-lost g c =
    loses-then c.args.iface.now.frames c.loop.iface.frames c.window_round.new.iface.frames (view c.args.pass.now)
    (view c.loop.pass) (view c.window_round.new.pass) c.loop.invariant.lost c.window_round.ensures.lost

-- ---- what else a round leaves that ends the loop

pub returns-in-Done-clause-goes : goal.returns-in-Done-clause-goes
returns-in-Done-clause-goes g c = goes-then c.loop.invariant.goes c.window_round.ensures.goes

pub returns-in-Done-clause-held : goal.returns-in-Done-clause-held
returns-in-Done-clause-held g c = c.window_round.ensures.held

pub returns-in-Done-clause-iface : goal.returns-in-Done-clause-iface
returns-in-Done-clause-iface g c = (c.window_round.ensures.iface.0 ∙ c.loop.invariant.iface.0, c.window_round.ensures.iface.1 ∙ c.loop.invariant.iface.1)

pub returns-in-Done-clause-err : goal.returns-in-Done-clause-err
returns-in-Done-clause-err g c = tt

pub returns-in-Failed-clause-goes : goal.returns-in-Failed-clause-goes
returns-in-Failed-clause-goes g c = goes-then c.loop.invariant.goes c.window_round.ensures.goes

pub returns-in-Failed-clause-held : goal.returns-in-Failed-clause-held
returns-in-Failed-clause-held g c = c.window_round.ensures.held

pub returns-in-Failed-clause-iface : goal.returns-in-Failed-clause-iface
returns-in-Failed-clause-iface g c = (c.window_round.ensures.iface.0 ∙ c.loop.invariant.iface.0, c.window_round.ensures.iface.1 ∙ c.loop.invariant.iface.1)

pub returns-in-Failed-clause-ok : goal.returns-in-Failed-clause-ok
returns-in-Failed-clause-ok g c = tt
