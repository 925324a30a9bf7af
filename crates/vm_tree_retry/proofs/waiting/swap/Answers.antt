use Rattle.std.proofs.Common.{subst, sym}
use Rattle.vm_map.specs.declared.call.Call.TheVariants.{Swap}
use Rattle.vm_map.specs.declared.call.Reply.TheVariants.{Swapped}
use Rattle.vm_map.specs.declared.call.Swap.{Swap as Outcome}
use Rattle.vm_tree_round.specs.from_vm_step.Prelude.{view}
use Rattle.vm_tree_round.specs.from_vm_tree_read.Waiting.{AreRounds as rounds, Waits}
use Rattle.vm_tree_round.proofs.from_vm_tree_read.Lasting.{waits-self, waits-then}
use Rattle.vm_tree_round.proofs.from_vm_tree_read.Losing.{loses-then}
use Rattle.vm_tree_round.proofs.from_vm_tree_read.Rounds.{tried-none, tried-round}
use Rattle.vm_tree_round.specs.Rounds.{IsWriteRound}
use Rattle.vm_tree_retry.specs.Waiting.{IsWriteReplied}
use Rattle.vm_tree_retry.proofs.Lasting.{replied, waits-last}
use Rattle.vm_tree_retry.proofs.waiting.swap.Goals as goal

pub loop-init : goal.loop-init
loop-init g c = tried-none _ _ (waits-self _, rounds.none) c.requires.ready c.requires.frames

pub loop-preserved-in-Soon : goal.loop-preserved-in-Soon
loop-preserved-in-Soon g c =
    let i = c.loop.invariant in
    let k = c.swap_round.ensures in
    let told = c.in-Soon.ensures.told in
    tried-round i c.swap_round.new.pass c.swap_round.new.iface k.goes k.held k.lost k.iface
    (waits-then _ _ _ i.left.0 told.0, rounds.further _ _ i.left.1 told.1)

pub loop-preserved : goal.loop-preserved
loop-preserved g c =
    let i = c.loop.invariant in
    let k = c.swap_round.ensures in
    let told = c.in-Later.ensures.told in
    tried-round i c.swap_round.new.pass c.swap_round.new.iface k.goes k.held k.lost k.iface
    (waits-then _ _ _ i.left.0 told.0, rounds.further _ _ i.left.1 told.1)

pub returns-in-Done-clause-ok : goal.returns-in-Done-clause-ok
returns-in-Done-clause-ok g c =
    let left = c.loop.invariant.left in
    subst (λ (o : Outcome). IsWriteReplied g.K.Kind.plain g.K.Kind.layout Waits (IsWriteRound g.K.Kind.layout)
    (record {
      call = Swap (g.K.Kind.rank c.args.key.now) c.args.want c.args.value;
      reply = Swapped o;
    }) (view c.args.pass.now) (view c.swap_round.new.pass))
    (sym c.outcome.ensures) (replied g.K.Kind.plain g.K.Kind.layout Waits (IsWriteRound g.K.Kind.layout) _ _ _ _ left
    (waits-last _ _ left.0) c.in-Done.ensures.told)

pub returns-in-Done-clause-lost : goal.returns-in-Done-clause-lost
returns-in-Done-clause-lost g c =
    loses-then c.args.iface.now.frames c.loop.iface.frames c.swap_round.new.iface.frames (view c.args.pass.now)
    (view c.loop.pass) (view c.swap_round.new.pass) c.loop.invariant.lost c.swap_round.ensures.lost

pub returns-in-Failed-clause-err : goal.returns-in-Failed-clause-err
returns-in-Failed-clause-err g c =
    let i = c.loop.invariant in
    let told = c.in-Failed.ensures.told in
    record {
      tried = view c.loop.pass;
      rounds = i.left.1;
      waits = i.left.0;
      why = told.1;
      leaves = waits-then _ _ _ i.left.0 told.0;
    }

pub returns-in-Failed-clause-lost : goal.returns-in-Failed-clause-lost
returns-in-Failed-clause-lost g c =
    loses-then c.args.iface.now.frames c.loop.iface.frames c.swap_round.new.iface.frames (view c.args.pass.now)
    (view c.loop.pass) (view c.swap_round.new.pass) c.loop.invariant.lost c.swap_round.ensures.lost
