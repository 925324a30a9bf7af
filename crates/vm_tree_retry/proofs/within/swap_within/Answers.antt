use Rattle.std.proofs.Common.{◌<◌, arith, subst, sym}
use Rattle.vm_map.specs.declared.call.Call.TheVariants.{Swap}
use Rattle.vm_map.specs.declared.call.Reply.TheVariants.{Swapped}
use Rattle.vm_map.specs.declared.call.Swap.{Swap as Outcome}
use Rattle.vm_tree_round.specs.from_vm_step.Prelude.{view}
use Rattle.vm_tree_round.specs.from_vm_tree_read.Waiting.{HasRounds, rounds_in, Waits}
use Rattle.vm_tree_round.proofs.from_vm_tree_read.Lasting.{waits-self, waits-then}
use Rattle.vm_tree_round.proofs.from_vm_tree_read.Losing.{loses-then}
use Rattle.vm_tree_round.proofs.from_vm_tree_read.Rounds.{has-further, has-none, tried-none, tried-round}
use Rattle.vm_tree_round.specs.Rounds.{IsWriteRound}
use Rattle.vm_tree_retry.specs.Waiting.{IsWriteReplied}
use Rattle.vm_tree_retry.proofs.Lasting.{replied-within, waits-last}
use Rattle.vm_tree_retry.proofs.within.swap_within.Goals as goal

pub rounds-init : goal.rounds-init
rounds-init g c = tried-none _ _ (waits-self _, has-none _ _) c.requires.ready c.requires.frames

pub rounds-preserved-in-Soon : goal.rounds-preserved-in-Soon
rounds-preserved-in-Soon g c =
    let i = c.rounds.invariant in
    let k = c.swap_round.ensures in
    let told = c.in-Soon.ensures.told in
    tried-round i c.swap_round.new.pass c.swap_round.new.iface k.goes k.held k.lost k.iface
    (waits-then _ _ _ i.left.0 told.0, has-further _ _ _ _ _ i.left.1 told.1)

pub rounds-preserved : goal.rounds-preserved
rounds-preserved g c =
    let i = c.rounds.invariant in
    let k = c.swap_round.ensures in
    let told = c.in-Later.ensures.told in
    tried-round i c.swap_round.new.pass c.swap_round.new.iface k.goes k.held k.lost k.iface
    (waits-then _ _ _ i.left.0 told.0, has-further _ _ _ _ _ i.left.1 told.1)

pub returns-in-Done-clause-some : goal.returns-in-Done-clause-some
returns-in-Done-clause-some g c =
    let left = c.rounds.invariant.left in
    subst (λ (o : Outcome). (r : IsWriteReplied g.K.Kind.plain g.K.Kind.layout Waits (IsWriteRound g.K.Kind.layout)
    (record {
      call = Swap (g.K.Kind.rank c.args.key.now) c.args.want c.args.value;
      reply = Swapped o;
    }) (view c.args.pass.now) (view c.swap_round.new.pass)) × (rounds_in r.rounds < c.args.turns))
    (sym c.outcome.ensures) (replied-within g.K.Kind.plain g.K.Kind.layout Waits (IsWriteRound g.K.Kind.layout) _ _ _ _ _ _ left
    c.rounds-test.true (waits-last _ _ left.0) c.in-Done.ensures.told)

pub returns-in-Done-clause-lost : goal.returns-in-Done-clause-lost
returns-in-Done-clause-lost g c =
    loses-then c.args.iface.now.frames c.rounds.iface.frames c.swap_round.new.iface.frames (view c.args.pass.now)
    (view c.rounds.pass) (view c.swap_round.new.pass) c.rounds.invariant.lost c.swap_round.ensures.lost

pub returns-in-Failed-clause-err : goal.returns-in-Failed-clause-err
returns-in-Failed-clause-err g c =
    let i = c.rounds.invariant in
    let told = c.in-Failed.ensures.told in (
      record {
        tried = view c.rounds.pass;
        rounds = i.left.1.0;
        waits = i.left.0;
        why = told.1;
        leaves = waits-then _ _ _ i.left.0 told.0;
      },
      subst (λ n. n < c.args.turns) (sym i.left.1.1) c.rounds-test.true,
    )

pub returns-in-Failed-clause-lost : goal.returns-in-Failed-clause-lost
returns-in-Failed-clause-lost g c =
    loses-then c.args.iface.now.frames c.rounds.iface.frames c.swap_round.new.iface.frames (view c.args.pass.now)
    (view c.rounds.pass) (view c.swap_round.new.pass) c.rounds.invariant.lost c.swap_round.ensures.lost

-- ---- all were in vain

pub returns-clause-none : goal.returns-clause-none
returns-clause-none g c _ =
    let left = c.rounds.invariant.left in (
      left.0,
      subst (λ n. HasRounds (IsWriteRound g.K.Kind.layout (g.K.Kind.rank c.args.key.now)) n (view c.args.pass.now) (view c.rounds.pass))
          (omega (arith, c.rounds.auto._made-end, c.rounds-test.false)) left.1,
    )
