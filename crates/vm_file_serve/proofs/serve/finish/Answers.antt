use Rattle.std.proofs.Common.{◌∙◌, ◌≡◌, ap, Bool, map, Option, refl, rules, subst, sym, ℕ}
use Rattle.std.proofs.lemmas.Result.{err_from_is_err_and}
use Rattle.vm_reading.specs.from_vm_drive.Prelude.{all_replies}
use Rattle.vm_reading.specs.from_vm_drive.Drives.{items_of}
use Rattle.vm_reading.specs.from_vm_endings.{Deliveries.content_of, Serves.unsaved_page}
use Rattle.vm_reading.proofs.from_vm_endings.Telling.{matched}
use Rattle.vm_file_serve.specs.Serving.{AreServable, IsToldServe}
use Rattle.vm_file_serve.proofs.Bringing.{brought, lent_back, synced_many}
use Rattle.vm_file_serve.proofs.Homes.{just_changes}
use Rattle.vm_file_serve.proofs.serve.finish.Goals.{in-None, in-Some}
use Rattle.vm_file_serve.proofs.serve.finish.Goals as goal

pub worked-requires-clause-pages : goal.worked-requires-clause-pages
worked-requires-clause-pages g c κs within =
    subst (λ (tells : Bool). AreServable tells c.args.ready.image (map g.D.B.Block.stored c.args.blocks.items))
    (sym g.met.D.Devices.told) c.requires.ready.servable

pub told-requires-clause-matched : goal.told-requires-clause-matched
told-requires-clause-matched g c = rw c.as_slice.ensures.value (matched _ _ _ c.in-Ok.ensures.served.calls)

pub returns-in_err-delivery : goal.returns-in_err-delivery
returns-in_err-delivery g c = λ base first outs many home.
    let stored = g.D.B.Block.stored in
    let back = lent_back stored c.in-Ok.served.blocks.items c.as_mut_slice.result.now c.sync_all-unsynced.new.blocks
    c.in-Ok.served.blocks.len c.as_mut_slice.ensures.value (search rules)
    (synced_many _ _ _ _ c.sync_all-unsynced.ensures.stored) in
    let came = brought stored g.D.Devices.tells _ _ _ c.args.blocks.items c.in-Ok.served.blocks.items c.as_mut_slice.result.now
    c.sync_all-unsynced.new.blocks _ c.sync_all-unsynced.result c.as_mut_slice.ensures.value back
    (c.in-Ok.ensures.served.count ∙ c.requires.ready.servable.pages_of.count)
    (rw g.met.D.Devices.told at c.sync_all-unsynced.ensures.stored) c.bring_all.ensures.home base first outs many home in
    let p = err_from_is_err_and c.from_residual.result c.from_residual.ensures.1 in
    rw p.1 (refl, λ t. just_changes _ _ _ _ (came.files t))

pub returns : goal.returns
returns g c = λ base first outs many home.
    let stored = g.D.B.Block.stored in
    let lists = items_of c.args.ready.lists.items in
    let replies = all_replies c.in-Ok.served.kept.items in
    let report = c.in-Ok.served.report in
    let unsynced = c.sync_all-unsynced.result in
    let back = lent_back stored c.in-Ok.served.blocks.items c.as_mut_slice.result.now c.sync_all-unsynced.new.blocks
    c.in-Ok.served.blocks.len c.as_mut_slice.ensures.value (search rules)
    (synced_many _ _ _ _ c.sync_all-unsynced.ensures.stored) in
    let came = brought stored g.D.Devices.tells _ _ _ c.args.blocks.items c.in-Ok.served.blocks.items c.as_mut_slice.result.now
    c.sync_all-unsynced.new.blocks _ c.sync_all-unsynced.result c.as_mut_slice.ensures.value back
    (c.in-Ok.ensures.served.count ∙ c.requires.ready.servable.pages_of.count)
    (rw g.met.D.Devices.told at c.sync_all-unsynced.ensures.stored) c.bring_all.ensures.home base first outs many home in
    let unsaved : unsaved_page report.first unsynced ≡ c.match-report.unsaved = elim c.match-report.branch [
      | in-Some w ↦ ap (λ (f : Option ℕ). unsaved_page f unsynced) w.in-Some.is ∙ sym w.unsaved-is
      | in-None w ↦ ap (λ (f : Option ℕ). unsaved_page f unsynced) w.in-None.is ∙ sym w.unsaved-is
    ] in
    let text = rw (c.as_slice-lists.ensures.value, c.as_slice.ensures.value) at c.in_ok-delivery.ensures in
    record {
      end = c.in-Ok.served.ended;
      kept = refl;
      made = record {
        replies = replies;
        report = report;
        before = map stored c.args.blocks.items;
        blocks = map stored c.in-Ok.served.blocks.items;
        lasting = map stored c.sync_all-unsynced.new.blocks;
        served = rw (c.as_slice-lists.ensures.value, g.met.D.Devices.told) at c.in-Ok.ensures.served;
        version = c.in-Ok.ensures.version;
        frames = c.in-Ok.ensures.frames;
        unsynced = unsynced;
        synced = rw (c.as_mut_slice.ensures.value, g.met.D.Devices.told) at c.sync_all-unsynced.ensures.stored;
      };
      before = refl;
      evicted = c.in-Ok.served.evicted;
      text = subst (λ (u : Option ℕ). IsToldServe lists replies u c.in-Ok.served.ended c.in-Ok.served.evicted
          (content_of c.in_ok-delivery.delivery)) (sym unsaved) text;
      home = came;
    }
