use Rattle.std.proofs.Common.{◌+◌, ◌++◌, ◌<◌, ◌∙◌, ap, arith, length, List}
use Rattle.vm_bytes_serve.specs.from_vm_drive.Drives.{items_of}
use Rattle.vm_bytes_replies.specs.KeyLines.{key_worker_lines}
use Rattle.vm_bytes_replies.proofs.Telling.{Answer, few_at, its_matched, its_shown, kept_long, kept_told, worker_told}
use Rattle.vm_bytes_replies.proofs.Telling.{workers_told}
use Rattle.vm_bytes_replies.proofs.replies.add_key_replies.Goals as goal

pub bounds-lists-worker : goal.bounds-lists-worker
bounds-lists-worker c = omega (arith, kept_long c.args.lists.now c.args.replies.now c.requires.answered)

pub add_answers-requires-clause-same : goal.add_answers-requires-clause-same
add_answers-requires-clause-same c =
    let here = rw c.workers.invariant.worker at c.index-lists-worker.is in
    rw c.as_slice-calls.ensures.value
    (its_matched c.args.lists.now c.args.replies.now c.requires.answered c.workers.answers-index
    c.index-lists-worker.result c.answers-item.result c.workers-test.true here c.answers-item.is)

pub add_answers-requires-clause-shown : goal.add_answers-requires-clause-shown
add_answers-requires-clause-shown c =
    let here = rw c.workers.invariant.worker at c.index-lists-worker.is in
    its_shown c.args.lists.now c.args.replies.now c.requires.answered c.workers.answers-index
    c.index-lists-worker.result c.answers-item.result c.workers-test.true here c.answers-item.is

pub add_answers-requires-clause-few : goal.add_answers-requires-clause-few
add_answers-requires-clause-few c =
    let within : c.workers.worker < length c.args.lists.now =
    omega (arith, kept_long c.args.lists.now c.args.replies.now c.requires.answered) in
    rw c.as_slice-calls.ensures.value
    (few_at c.args.lists.now c.workers.worker c.index-lists-worker.result c.requires.few within
    c.index-lists-worker.is)

pub overflow_add-worker : goal.overflow_add-worker
overflow_add-worker c = omega (arith, kept_long c.args.lists.now c.args.replies.now c.requires.answered)

pub workers-preserved : goal.workers-preserved
workers-preserved c =
    let here = rw c.workers.invariant.worker at c.index-lists-worker.is in
    let more = rw (c.as_slice-calls.ensures.value, c.workers.invariant.worker) at c.in_ok-add_answers.ensures in
    record {
      worker = ap (λ n. n + 1) c.workers.invariant.worker;
      told = worker_told c.args.lists.now c.args.replies.now c.requires.answered c.workers.answers-index
          c.index-lists-worker.result c.answers-item.result c.workers-test.true here c.answers-item.is
          c.workers.out.items c.add_answers.new.out.items _ c.workers.invariant.told more;
    }

pub returns : goal.returns
returns c told stand =
    workers_told c.args.lists.now c.args.replies.now c.requires.answered c.workers.answers-index c.workers.out.items _
    c.workers-test.false c.workers.invariant.told
    ∙ ap (λ (t : List (List Answer)). c.args.out.now.items ++ key_worker_lines 0 (items_of c.args.lists.now) t)
    (kept_told c.args.replies.now told stand)
