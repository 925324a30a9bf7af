use Rattle.std.proofs.Common.{◌+◌, ◌<◌, ap, arith, length}
use Rattle.vm_endings.proofs.replies.add_replies.Goals as goal
use Rattle.vm_endings.proofs.Telling.{as_many, contents_at, few_at, matched_at, worker_told, workers_told}

pub bounds-lists-worker : goal.bounds-lists-worker
bounds-lists-worker c = omega (arith, as_many c.args.lists.now c.args.replies.now c.requires.matched)

pub add_answers-requires-clause-same : goal.add_answers-requires-clause-same
add_answers-requires-clause-same c =
    let here = rw c.workers.invariant.worker at c.index-lists-worker.is in
    rw c.as_slice-calls.ensures.value
    (matched_at c.args.lists.now c.args.replies.now c.workers.answers-index c.index-lists-worker.result
    c.answers-item.result c.requires.matched c.workers-test.true here c.answers-item.is)

pub add_answers-requires-clause-few : goal.add_answers-requires-clause-few
add_answers-requires-clause-few c =
    let within : c.workers.worker < length c.args.lists.now =
    omega (arith, as_many c.args.lists.now c.args.replies.now c.requires.matched) in
    rw c.as_slice-calls.ensures.value
    (few_at c.args.lists.now c.workers.worker c.index-lists-worker.result c.requires.few within
    c.index-lists-worker.is)

pub add_answers-requires-clause-contents : goal.add_answers-requires-clause-contents
add_answers-requires-clause-contents c = contents_at c.args.replies.now c.workers.answers-index c.answers-item.result
    c.requires.contents c.workers-test.true c.answers-item.is

pub overflow_add-worker : goal.overflow_add-worker
overflow_add-worker c = omega (arith, as_many c.args.lists.now c.args.replies.now c.requires.matched)

pub workers-preserved : goal.workers-preserved
workers-preserved c =
    let here = rw c.workers.invariant.worker at c.index-lists-worker.is in
    let more = rw (c.as_slice-calls.ensures.value, c.workers.invariant.worker) at c.in_ok-add_answers.ensures in
    record {
      worker = ap (λ n. n + 1) c.workers.invariant.worker;
      told = worker_told c.args.lists.now c.args.replies.now c.workers.answers-index c.index-lists-worker.result
          c.answers-item.result c.workers.out.items c.add_answers.new.out.items _ c.requires.matched
          c.workers-test.true here c.answers-item.is c.workers.invariant.told more;
    }

pub returns : goal.returns
returns c = workers_told c.args.lists.now c.args.replies.now c.workers.answers-index c.workers.out.items _
    c.requires.matched c.workers-test.false c.workers.invariant.told
