use Rattle.std.proofs.Common.{◌<◌, ◌∙◌, ap, length, slice_index_or, subst, sym}
use Rattle.vm_step.specs.Prelude.{HasJoined, view}
use Rattle.vm_workers.specs.Works.{HasSaid, views_of}
use Rattle.vm_workers.proofs.Staying.{came-back}
use Rattle.vm_workers.proofs.tally.tally_and_join.Goals as goal

pub returns-clause-joined : goal.returns-clause-joined
returns-clause-joined g c =
    let value = c.as_mut_slice.ensures.value in
    record {
      new = c.tally_all.new.workers;
      count = c.tally_all.ensures.count ∙ ap length value;
      said = λ i d l.
          subst (λ xs. HasSaid c.args.pool.now.words.table.shared.key g.B.Block.tells
          c.args.pool.now.words.table.shared.table_id (slice_index_or xs i d)
          (slice_index_or c.tally_all.new.workers i d)) value
          (c.tally_all.ensures.done i d (subst (λ xs. i < length xs) (sym value) l));
      joined = subst (λ xs. HasJoined (view c.args.pass.now) (views_of xs) (view c.join_workers.new.pass))
          (came-back c.args.workers.len c.tally_all.new.workers c.args.workers.items
          (sym c.as_mut_slice.ensures.len ∙ ap length value) (c.tally_all.ensures.count ∙ ap length value))
          c.join_workers.ensures.joined;
    }
