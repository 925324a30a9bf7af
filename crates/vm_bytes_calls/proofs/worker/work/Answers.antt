use Rattle.std.proofs.Common.{[]}
use Rattle.vm_step.specs.Prelude.{view}
use Rattle.vm_calls.proofs.from_vm_tree_read.Losing.{loses-then}
use Rattle.vm_calls.proofs.{Chain.calls-done, Chain.holds-none-on, Doing.moves-keep, Framing.given-loses}
use Rattle.vm_bytes_calls.specs.KeyCalls.{key_calls}
use Rattle.vm_bytes_calls.proofs.Answering.{key_laws}
use Rattle.vm_bytes_calls.proofs.worker.work.Goals as goal

pub returns-clause-holds : goal.returns-clause-holds
returns-clause-holds g c =
    let had = c.call_all.ensures.done in
    let called = calls-done key_calls key_laws _ had.told (view c.args.worker.now.pass) (view c.call_all.new.worker.pass) had.each in
    holds-none-on (view c.call_all.new.worker.pass) (view c.give_all.new.pass)
    (moves-keep c.give_all.ensures.given.done _ _ c.give_all.ensures.given.moves)
    (holds-none-on (view c.args.worker.now.pass) (view c.call_all.new.worker.pass) called.keeps c.requires.holds)

pub returns-clause-done : goal.returns-clause-done
returns-clause-done g c =
    let had = c.call_all.ensures.done in
    record {
      told = had.told;
      stands = had.stands;
      made = view c.call_all.new.worker.pass;
      each = had.each;
      back = (c.give_all.ensures.given.done, c.give_all.ensures.given.moves);
    }

pub returns-clause-lost : goal.returns-clause-lost
returns-clause-lost g c = loses-then c.args.worker.now.iface.frames c.call_all.new.worker.iface.frames []
    (view c.args.worker.now.pass) (view c.call_all.new.worker.pass) (view c.give_all.new.pass) c.call_all.ensures.lost
    (given-loses c.call_all.new.worker.iface.frames (view c.call_all.new.worker.pass) (view c.give_all.new.pass)
    c.give_all.ensures.given)
