use Rattle.std.proofs.Common.{rules}
use Rattle.vm_evict.specs.declared.candidate.Phase.TheVariants as phases
use Rattle.vm_evict.specs.declared.candidate.Stage.TheVariants as stages
use Rattle.vm_evict.proofs.{Moving.advances-after, Moving.gives-nothing, Saving.failed-so, Saving.written-so}
use Rattle.vm_evict.proofs.Locking.{lock-now, lost-so, may-unshare, share-known, share-quiet, under-write-back, writing}
use Rattle.vm_evict.proofs.Prelude.{false, refl, shares, view, ◌∙◌}
use Rattle.vm_supply.proofs.from_vm_step.Going.{goes-then}
use Rattle.vm_evict.proofs.candidate.save_marked.Goals as goal

pub returns-in-Lost-clause-moved : goal.returns-in-Lost-clause-moved
returns-in-Lost-clause-moved g c v done h why =
    lost-so phases.Save stages.Waiting c.args.p c.args.word c.in-Lost.field-0 _ done v (view c.args.pass.now) _
    (view c.lock_write_back.new.pass) h (c.lock_write_back.ensures.lost c.in-Lost.field-0 c.in-Lost.is)
    c.in-Lost.ensures.told.brings (shares c.in-Lost.field-0 refl)
    tt (gives-nothing refl refl refl) (λ k. k)

pub unlock_shared-requires-clause-legal : goal.unlock_shared-requires-clause-legal
unlock_shared-requires-clause-legal g c =
    let k = c.in-Err.ensures.written.locked in
    may-unshare c.args.p (view c.write_where_dirty.new.pass) (k.works.seat ∙ lock-now c.in_default.ensures.told) k.told k.home

pub returns-in-Ok-clause-moved : goal.returns-in-Ok-clause-moved
returns-in-Ok-clause-moved g c v done h why =
    advances-after (c.args.p, c.args.word) stages.Waiting (stages.Shared false) (stages.Shared c.in-Ok.written) done _
    v (view c.args.pass.now) (view c.lock_write_back.new.pass) (view c.write_where_dirty.new.pass)
    (share-quiet g.U.Owner.tied c.args.p c.args.word c.requires.candidate.marked done v (view c.args.pass.now)
    (view c.lock_write_back.new.pass) h c.in_default.ensures.told)
    refl refl refl
    (share-known g.U.Owner.tied c.args.p c.args.word c.requires.candidate.marked done v (view c.args.pass.now)
    (view c.lock_write_back.new.pass) h c.in_default.ensures.told)
    (written-so c.args.p c.args.word _ v (view c.lock_write_back.new.pass) (view c.write_where_dirty.new.pass)
    (writing g.U.Owner.tied c.args.p c.args.word c.requires.candidate.marked done v (view c.args.pass.now)
    (view c.lock_write_back.new.pass) h c.in_default.ensures.told why) c.in-Ok.written c.in-Ok.ensures.written)

pub returns-in-Err-clause-moved : goal.returns-in-Err-clause-moved
returns-in-Err-clause-moved g c v done h why =
    advances-after (c.args.p, c.args.word) stages.Waiting (stages.Shared false) (stages.Failed c.in-Err.count) done _
    v (view c.args.pass.now) (view c.lock_write_back.new.pass) (view c.unlock_shared.new.pass)
    (share-quiet g.U.Owner.tied c.args.p c.args.word c.requires.candidate.marked done v (view c.args.pass.now)
    (view c.lock_write_back.new.pass) h c.in_default.ensures.told)
    refl refl refl
    (share-known g.U.Owner.tied c.args.p c.args.word c.requires.candidate.marked done v (view c.args.pass.now)
    (view c.lock_write_back.new.pass) h c.in_default.ensures.told)
    (failed-so c.args.p c.args.word _ v (view c.lock_write_back.new.pass) (view c.write_where_dirty.new.pass)
    (writing g.U.Owner.tied c.args.p c.args.word c.requires.candidate.marked done v (view c.args.pass.now)
    (view c.lock_write_back.new.pass) h c.in_default.ensures.told why) c.in-Err.count c.in-Err.ensures.written
    c.unlock_shared.result (view c.unlock_shared.new.pass) c.unlock_shared.ensures.told)

pub returns-in-Err-clause-goes : goal.returns-in-Err-clause-goes
returns-in-Err-clause-goes g c =
    goes-then (goes-then c.lock_write_back.ensures.goes c.write_where_dirty.ensures.goes) c.unlock_shared.ensures.goes

pub write_where_dirty-requires : goal.write_where_dirty-requires
write_where_dirty-requires g c = record {
  ready = c.lock_write_back.ensures.goes.ready;
  page = search rules;
  sized = c.requires.sized;
  size = c.requires.size;
  legal = under-write-back c.in_default.ensures.told c.requires.home;
}
