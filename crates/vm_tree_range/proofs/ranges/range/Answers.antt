use Rattle.std.proofs.Common.{◌∙◌, refl}
use Rattle.vm_step.proofs.Going.{goes-then}
use Rattle.vm_step.specs.Prelude.{view}
use Rattle.vm_tree_read.proofs.Lasting.{waits-self, waits-then}
use Rattle.vm_tree_read.proofs.Losing.{loses-then}
use Rattle.vm_tree_read.proofs.Rounds.{tried-none, tried-round}
use Rattle.vm_tree_read.specs.Waiting.{AreRounds as rounds}
use Rattle.vm_tree_range.proofs.RangeRounds.{range-replied}
use Rattle.vm_tree_range.proofs.ranges.range.Goals as goal

pub loop-init : goal.loop-init
loop-init g c = record { tried = tried-none _ _ (waits-self _, rounds.none) c.requires.ready c.requires.frames; same = refl }

pub loop-preserved-in-Soon : goal.loop-preserved-in-Soon
loop-preserved-in-Soon g c =
    let i = c.loop.invariant.tried in
    let k = c.range_round.ensures in
    let told = c.in-Soon.ensures.told in
    record {
      tried = tried-round i c.range_round.new.pass c.range_round.new.iface k.goes k.held k.lost k.iface
          (waits-then _ _ _ i.left.0 told.0, rounds.further _ _ i.left.1 told.1);
      same = told.2 ∙ c.loop.invariant.same;
    }

pub loop-preserved : goal.loop-preserved
loop-preserved g c =
    let i = c.loop.invariant.tried in
    let k = c.range_round.ensures in
    let told = c.in-Later.ensures.told in
    record {
      tried = tried-round i c.range_round.new.pass c.range_round.new.iface k.goes k.held k.lost k.iface
          (waits-then _ _ _ i.left.0 told.0, rounds.further _ _ i.left.1 told.1);
      same = told.2 ∙ c.loop.invariant.same;
    }

pub returns-in-Done-clause-ok : goal.returns-in-Done-clause-ok
returns-in-Done-clause-ok g c =
    range-replied g.K.Kind.plain g.K.Kind.layout _ _ _ _ c.loop.invariant.tried.left c.in-Done.ensures.told.0

pub returns-in-Done-clause-lost : goal.returns-in-Done-clause-lost
returns-in-Done-clause-lost g c =
    loses-then c.args.iface.now.frames c.loop.iface.frames c.range_round.new.iface.frames (view c.args.pass.now)
    (view c.loop.pass) (view c.range_round.new.pass) c.loop.invariant.tried.lost c.range_round.ensures.lost

pub returns-in-Failed-clause-err : goal.returns-in-Failed-clause-err
returns-in-Failed-clause-err g c =
    let i = c.loop.invariant.tried in
    let told = c.in-Failed.ensures.told in
    record {
      tried = view c.loop.pass;
      rounds = i.left.1;
      waits = i.left.0;
      why = told.1;
      leaves = waits-then _ _ _ i.left.0 told.0;
    }

pub returns-in-Failed-clause-lost : goal.returns-in-Failed-clause-lost
returns-in-Failed-clause-lost g c =
    loses-then c.args.iface.now.frames c.loop.iface.frames c.range_round.new.iface.frames (view c.args.pass.now)
    (view c.loop.pass) (view c.range_round.new.pass) c.loop.invariant.tried.lost c.range_round.ensures.lost

-- ---- what else a round leaves that ends the loop

pub returns-in-Done-clause-goes : goal.returns-in-Done-clause-goes
returns-in-Done-clause-goes g c = goes-then c.loop.invariant.tried.goes c.range_round.ensures.goes

pub returns-in-Done-clause-held : goal.returns-in-Done-clause-held
returns-in-Done-clause-held g c = c.range_round.ensures.held

pub returns-in-Done-clause-iface : goal.returns-in-Done-clause-iface
returns-in-Done-clause-iface g c = (c.range_round.ensures.iface.0 ∙ c.loop.invariant.tried.iface.0, c.range_round.ensures.iface.1 ∙ c.loop.invariant.tried.iface.1)

pub returns-in-Failed-clause-goes : goal.returns-in-Failed-clause-goes
returns-in-Failed-clause-goes g c = goes-then c.loop.invariant.tried.goes c.range_round.ensures.goes

pub returns-in-Failed-clause-held : goal.returns-in-Failed-clause-held
returns-in-Failed-clause-held g c = c.range_round.ensures.held

pub returns-in-Failed-clause-iface : goal.returns-in-Failed-clause-iface
returns-in-Failed-clause-iface g c = (c.range_round.ensures.iface.0 ∙ c.loop.invariant.tried.iface.0, c.range_round.ensures.iface.1 ∙ c.loop.invariant.tried.iface.1)

pub returns-in-Done-clause-kind : goal.returns-in-Done-clause-kind
returns-in-Done-clause-kind g c = c.in-Done.ensures.told.1

pub returns-in-Done-clause-err : goal.returns-in-Done-clause-err
returns-in-Done-clause-err g c = tt

pub returns-in-Failed-clause-ok : goal.returns-in-Failed-clause-ok
returns-in-Failed-clause-ok g c = tt

pub returns-in-Failed-clause-kind : goal.returns-in-Failed-clause-kind
returns-in-Failed-clause-kind g c = tt
