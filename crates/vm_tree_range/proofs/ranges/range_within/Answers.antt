use Rattle.std.proofs.Common.{◌<◌, ◌∙◌, arith, refl, subst, sym}
use Rattle.std.proofs.lemmas.Option.{none-some}
use Rattle.vm_step.proofs.Going.{goes-then}
use Rattle.vm_step.specs.Prelude.{view}
use Rattle.vm_tree_read.proofs.Lasting.{waits-self, waits-then}
use Rattle.vm_tree_read.proofs.Losing.{loses-then}
use Rattle.vm_tree_read.proofs.Rounds.{has-further, has-none, tried-none, tried-round}
use Rattle.vm_tree_read.specs.Waiting.{HasRounds}
use Rattle.vm_tree_range.proofs.RangeRounds.{range-replied-within}
use Rattle.vm_tree_range.specs.Ranges.{IsRangeRound}
use Rattle.vm_tree_range.proofs.ranges.range_within.Goals as goal

pub rounds-init : goal.rounds-init
rounds-init g c = record { tried = tried-none _ _ (waits-self _, has-none _ _) c.requires.ready c.requires.frames; same = refl }

pub rounds-preserved-in-Soon : goal.rounds-preserved-in-Soon
rounds-preserved-in-Soon g c =
    let i = c.rounds.invariant.tried in
    let k = c.range_round.ensures in
    let told = c.in-Soon.ensures.told in
    record {
      tried = tried-round i c.range_round.new.pass c.range_round.new.iface k.goes k.held k.lost k.iface
          (waits-then _ _ _ i.left.0 told.0, has-further _ _ _ _ _ i.left.1 told.1);
      same = told.2 ∙ c.rounds.invariant.same;
    }

pub rounds-preserved : goal.rounds-preserved
rounds-preserved g c =
    let i = c.rounds.invariant.tried in
    let k = c.range_round.ensures in
    let told = c.in-Later.ensures.told in
    record {
      tried = tried-round i c.range_round.new.pass c.range_round.new.iface k.goes k.held k.lost k.iface
          (waits-then _ _ _ i.left.0 told.0, has-further _ _ _ _ _ i.left.1 told.1);
      same = told.2 ∙ c.rounds.invariant.same;
    }

pub returns-in-Done-clause-some : goal.returns-in-Done-clause-some
returns-in-Done-clause-some g c =
    range-replied-within g.K.Kind.plain g.K.Kind.layout _ _ _ _ _ _ c.rounds.invariant.tried.left c.rounds-test.true
    c.in-Done.ensures.told.0

pub returns-in-Done-clause-lost : goal.returns-in-Done-clause-lost
returns-in-Done-clause-lost g c =
    loses-then c.args.iface.now.frames c.rounds.iface.frames c.range_round.new.iface.frames (view c.args.pass.now)
    (view c.rounds.pass) (view c.range_round.new.pass) c.rounds.invariant.tried.lost c.range_round.ensures.lost

pub returns-in-Failed-clause-err : goal.returns-in-Failed-clause-err
returns-in-Failed-clause-err g c =
    let i = c.rounds.invariant.tried in
    let told = c.in-Failed.ensures.told in (
      record {
        tried = view c.rounds.pass;
        rounds = i.left.1.0;
        waits = i.left.0;
        why = told.1;
        leaves = waits-then _ _ _ i.left.0 told.0;
      },
      subst (λ n. n < c.args.turns) (sym i.left.1.1) c.rounds-test.true,
      told.2 ∙ c.rounds.invariant.same,
    )

pub returns-in-Failed-clause-lost : goal.returns-in-Failed-clause-lost
returns-in-Failed-clause-lost g c =
    loses-then c.args.iface.now.frames c.rounds.iface.frames c.range_round.new.iface.frames (view c.args.pass.now)
    (view c.rounds.pass) (view c.range_round.new.pass) c.rounds.invariant.tried.lost c.range_round.ensures.lost

-- ---- all were in vain

pub returns-clause-none : goal.returns-clause-none
returns-clause-none g c _ =
    let left = c.rounds.invariant.tried.left in (
      left.0,
      subst (λ n. HasRounds (IsRangeRound g.K.Kind.layout (g.K.Kind.rank c.args.low.now) c.args.bound) n (view c.args.pass.now)
          (view c.rounds.pass)) (omega (arith, c.rounds.auto._made-end, c.rounds-test.false)) left.1,
      c.rounds.invariant.same,
    )

-- ---- what else a round leaves that ends the loop

pub returns-in-Done-clause-goes : goal.returns-in-Done-clause-goes
returns-in-Done-clause-goes g c = goes-then c.rounds.invariant.tried.goes c.range_round.ensures.goes

pub returns-in-Done-clause-held : goal.returns-in-Done-clause-held
returns-in-Done-clause-held g c = c.range_round.ensures.held

pub returns-in-Done-clause-iface : goal.returns-in-Done-clause-iface
returns-in-Done-clause-iface g c = (c.range_round.ensures.iface.0 ∙ c.rounds.invariant.tried.iface.0, c.range_round.ensures.iface.1 ∙ c.rounds.invariant.tried.iface.1)

pub returns-in-Failed-clause-goes : goal.returns-in-Failed-clause-goes
returns-in-Failed-clause-goes g c = goes-then c.rounds.invariant.tried.goes c.range_round.ensures.goes

pub returns-in-Failed-clause-held : goal.returns-in-Failed-clause-held
returns-in-Failed-clause-held g c = c.range_round.ensures.held

pub returns-in-Failed-clause-iface : goal.returns-in-Failed-clause-iface
returns-in-Failed-clause-iface g c = (c.range_round.ensures.iface.0 ∙ c.rounds.invariant.tried.iface.0, c.range_round.ensures.iface.1 ∙ c.rounds.invariant.tried.iface.1)

pub returns-in-Done-clause-kind : goal.returns-in-Done-clause-kind
returns-in-Done-clause-kind g c = c.in-Done.ensures.told.1

pub returns-in-Done-clause-err : goal.returns-in-Done-clause-err
returns-in-Done-clause-err g c = tt

pub returns-in-Done-clause-none : goal.returns-in-Done-clause-none
returns-in-Done-clause-none g c none = absurd (none-some _ (sym none))

pub returns-in-Failed-clause-some : goal.returns-in-Failed-clause-some
returns-in-Failed-clause-some g c = tt

pub returns-in-Failed-clause-kind : goal.returns-in-Failed-clause-kind
returns-in-Failed-clause-kind g c = tt

pub returns-in-Failed-clause-none : goal.returns-in-Failed-clause-none
returns-in-Failed-clause-none g c = tt

pub returns-clause-goes : goal.returns-clause-goes
returns-clause-goes g c = c.rounds.invariant.tried.goes

pub returns-clause-held : goal.returns-clause-held
returns-clause-held g c = c.rounds.invariant.tried.held

pub returns-clause-iface : goal.returns-clause-iface
returns-clause-iface g c = c.rounds.invariant.tried.iface

pub returns-clause-lost : goal.returns-clause-lost
returns-clause-lost g c = c.rounds.invariant.tried.lost

pub returns-clause-some : goal.returns-clause-some
returns-clause-some g c = tt

pub returns-clause-err : goal.returns-clause-err
returns-clause-err g c = tt

pub returns-clause-kind : goal.returns-clause-kind
returns-clause-kind g c = tt
