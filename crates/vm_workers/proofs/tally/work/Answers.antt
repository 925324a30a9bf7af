use Rattle.std.proofs.Common.{◌∙◌, ap, length, refl, sym}
use Rattle.vm_workers.proofs.Staying.{came-back, found-back}
use Rattle.vm_workers.proofs.tally.work.Goals as goal

pub returns : goal.returns
returns g c =
    let worker = c.args.worker.now in
    let value = c.as_slice.ensures.value in
    let room = c.as_mut_slice.ensures.value in
    let long = c.serve.ensures.room ∙ ap length value in
    let back = came-back worker.job.replies.len c.serve.new.replies worker.job.replies.items
    (sym c.as_mut_slice.ensures.len ∙ ap length room) (long ∙ sym c.requires.may.job.room) in
    record {
      done = record {
        ready = c.serve.ensures.goes.ready;
        says = c.serve.ensures.says;
        calls = refl;
        replies = ap length back ∙ long;
        found = found-back _ _ _ _ _ _ value back c.serve.ensures.found;
      };
    }
