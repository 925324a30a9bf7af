use Rattle.std.proofs.Common.{◌∙◌, ◌<◌, arith, subst, sym}
use Rattle.std.proofs.lemmas.Option.{none-some}
use Rattle.vm_tree_rule.proofs.from_vm_step.Going.{goes-then}
use Rattle.vm_tree_rule.specs.from_vm_step.Prelude.{NoneExpected, view}
use Rattle.vm_tree_read.proofs.Lasting.{replied-within, waits-self, waits-then}
use Rattle.vm_tree_read.proofs.Losing.{loses-then}
use Rattle.vm_tree_read.proofs.Rounds.{has-further, has-none, tried-none, tried-round}
use Rattle.vm_tree_read.specs.Waiting.{HasRounds, IsRound}
use Rattle.vm_tree_read.proofs.within.get_within.Goals as goal

pub rounds-init : goal.rounds-init
rounds-init g c = tried-none _ _ (waits-self _, has-none _ _) c.requires.ready c.requires.frames

pub rounds-preserved-in-Soon : goal.rounds-preserved-in-Soon
rounds-preserved-in-Soon g c =
    let i = c.rounds.invariant in
    let k = c.get_round.ensures in
    let told = c.in-Soon.ensures.told in
    tried-round i c.get_round.new.pass c.get_round.new.iface k.goes k.held k.lost k.iface
    (waits-then _ _ _ i.left.0 told.0, has-further _ _ _ _ _ i.left.1 told.1)

pub rounds-preserved : goal.rounds-preserved
rounds-preserved g c =
    let i = c.rounds.invariant in
    let k = c.get_round.ensures in
    let told = c.in-Later.ensures.told in
    tried-round i c.get_round.new.pass c.get_round.new.iface k.goes k.held k.lost k.iface
    (waits-then _ _ _ i.left.0 told.0, has-further _ _ _ _ _ i.left.1 told.1)

pub returns-in-Done-clause-some : goal.returns-in-Done-clause-some
returns-in-Done-clause-some g c =
    replied-within g.K.Kind.plain g.K.Kind.layout _ _ _ _ _ _ c.rounds.invariant.left c.rounds-test.true c.in-Done.ensures.told

pub returns-in-Done-clause-lost : goal.returns-in-Done-clause-lost
returns-in-Done-clause-lost g c =
    loses-then c.args.iface.now.frames c.rounds.iface.frames c.get_round.new.iface.frames (view c.args.pass.now)
    (view c.rounds.pass) (view c.get_round.new.pass) c.rounds.invariant.lost c.get_round.ensures.lost

pub returns-in-Failed-clause-err : goal.returns-in-Failed-clause-err
returns-in-Failed-clause-err g c =
    let i = c.rounds.invariant in
    let told = c.in-Failed.ensures.told in (
      record {
        tried = view c.rounds.pass;
        rounds = i.left.1.0;
        waits = i.left.0;
        why = told.1;
        leaves = waits-then _ _ _ i.left.0 told.0;
      },
      subst (λ n. n < c.args.turns) (sym i.left.1.1) c.rounds-test.true,
    )

pub returns-in-Failed-clause-lost : goal.returns-in-Failed-clause-lost
returns-in-Failed-clause-lost g c =
    loses-then c.args.iface.now.frames c.rounds.iface.frames c.get_round.new.iface.frames (view c.args.pass.now)
    (view c.rounds.pass) (view c.get_round.new.pass) c.rounds.invariant.lost c.get_round.ensures.lost

-- ---- all were in vain

pub returns-clause-none : goal.returns-clause-none
returns-clause-none g c _ =
    let left = c.rounds.invariant.left in (
      left.0,
      subst (λ n. HasRounds (IsRound g.K.Kind.layout NoneExpected (g.K.Kind.rank c.args.key.now)) n (view c.args.pass.now)
          (view c.rounds.pass)) (omega (arith, c.rounds.auto._made-end, c.rounds-test.false)) left.1,
    )

-- ---- what else a round leaves that ends the loop

pub returns-in-Done-clause-goes : goal.returns-in-Done-clause-goes
returns-in-Done-clause-goes g c = goes-then c.rounds.invariant.goes c.get_round.ensures.goes

pub returns-in-Done-clause-held : goal.returns-in-Done-clause-held
returns-in-Done-clause-held g c = c.get_round.ensures.held

pub returns-in-Done-clause-iface : goal.returns-in-Done-clause-iface
returns-in-Done-clause-iface g c = (c.get_round.ensures.iface.0 ∙ c.rounds.invariant.iface.0, c.get_round.ensures.iface.1 ∙ c.rounds.invariant.iface.1)

pub returns-in-Done-clause-err : goal.returns-in-Done-clause-err
returns-in-Done-clause-err g c = tt

pub returns-in-Done-clause-kind : goal.returns-in-Done-clause-kind
returns-in-Done-clause-kind g c = tt

pub returns-in-Failed-clause-goes : goal.returns-in-Failed-clause-goes
returns-in-Failed-clause-goes g c = goes-then c.rounds.invariant.goes c.get_round.ensures.goes

pub returns-in-Failed-clause-held : goal.returns-in-Failed-clause-held
returns-in-Failed-clause-held g c = c.get_round.ensures.held

pub returns-in-Failed-clause-iface : goal.returns-in-Failed-clause-iface
returns-in-Failed-clause-iface g c = (c.get_round.ensures.iface.0 ∙ c.rounds.invariant.iface.0, c.get_round.ensures.iface.1 ∙ c.rounds.invariant.iface.1)

pub returns-in-Failed-clause-some : goal.returns-in-Failed-clause-some
returns-in-Failed-clause-some g c = tt

pub returns-in-Failed-clause-none : goal.returns-in-Failed-clause-none
returns-in-Failed-clause-none g c = tt

pub returns-in-Failed-clause-kind : goal.returns-in-Failed-clause-kind
returns-in-Failed-clause-kind g c = tt

pub returns-in-Done-clause-none : goal.returns-in-Done-clause-none
returns-in-Done-clause-none g c none = absurd (none-some _ (sym none))

pub returns-clause-goes : goal.returns-clause-goes
returns-clause-goes g c = c.rounds.invariant.goes

pub returns-clause-held : goal.returns-clause-held
returns-clause-held g c = c.rounds.invariant.held

pub returns-clause-iface : goal.returns-clause-iface
returns-clause-iface g c = c.rounds.invariant.iface

pub returns-clause-lost : goal.returns-clause-lost
returns-clause-lost g c = c.rounds.invariant.lost

pub returns-clause-some : goal.returns-clause-some
returns-clause-some g c = tt

pub returns-clause-err : goal.returns-clause-err
returns-clause-err g c = tt

pub returns-clause-kind : goal.returns-clause-kind
returns-clause-kind g c = tt
