use Rattle.std.proofs.Common.{inl, inr, List, map, refl, rules, subst, sym}
use Rattle.std.specs.declared.alloc.AllocError.{AllocError}
use Rattle.vm_reading.specs.from_vm_endings.declared_delivery_Delivery.{Delivery}
use Rattle.vm_reading.specs.from_vm_endings.Deliveries.{content_of}
use Rattle.vm_file_serve.specs.declared.serve.Ready.{Ready}
use Rattle.vm_reading.specs.from_vm_endings.Outside.{outside_of, remains_of}
use Rattle.vm_file_serve.specs.Serving.{MayServe}
use Rattle.vm_file_serve.proofs.Answering.{cause-of, leaves-of, limits-stop, may-serve, ready-answers, taking-answers}
use Rattle.vm_file_serve.proofs.Answering.{taking-cause, taking-leaves}
use Rattle.vm_file_serve.proofs.Bringing.{back_home, changes_own, keeps_files, lent_back, rose_home}
use Rattle.vm_file_serve.proofs.Homes.{none_change}
use Rattle.vm_file_serve.proofs.Served.{serve-devices, serve-gives, serve-home}
use Rattle.vm_file_serve.proofs.serve.run_serve.Goals as goal

pub returns-in-Err-clause-gives : goal.returns-in-Err-clause-gives
returns-in-Err-clause-gives g c = (limits-stop _ _ c.args.serve.now c.in-Err.quantity c.in-Err.ensures, refl)

pub returns-in-Err-taken-clause-gives : goal.returns-in-Err-taken-clause-gives
returns-in-Err-taken-clause-gives g c =
    taking-answers c.args.serve.now c.in-Ok.workers _ _ c.in-Ok.ensures content_of c.in-Err-taken.undone
    (c.in-Err-taken.ensures.stopped _ _) c.args.ends.now

pub returns-in-Err-taken-clause-cause : goal.returns-in-Err-taken-clause-cause
returns-in-Err-taken-clause-cause g c =
    taking-cause Delivery _ (outside_of (g.H.Host.shown c.args.host.now) g.D.Devices.tells (g.D.Devices.state c.args.devices.now))
    (remains_of (g.H.Host.last c.args.host.now) (g.D.Devices.state c.taken.new.devices)) c.args.serve.now.file.now c.in-Err-taken.undone
    (c.in-Err-taken.ensures.stopped _ _) inr

pub returns-in-Err-taken-clause-home : goal.returns-in-Err-taken-clause-home
returns-in-Err-taken-clause-home g c =
    taking-leaves Delivery (outside_of (g.H.Host.shown c.args.host.now) g.D.Devices.tells (g.D.Devices.state c.args.devices.now))
    (remains_of (g.H.Host.last c.args.host.now) (g.D.Devices.state c.taken.new.devices)) c.args.serve.now.file.now c.in-Err-taken.undone
    (c.in-Err-taken.ensures.stopped _ _)

pub returns-in-Err-taken-clause-devices : goal.returns-in-Err-taken-clause-devices
returns-in-Err-taken-clause-devices g c = λ t.
    none_change _ _ _ ((c.in-Err-taken.ensures.stopped (g.H.Host.shown c.args.host.now) (g.H.Host.last c.args.host.now)).kept t)

pub finish-requires-clause-ready : goal.finish-requires-clause-ready
finish-requires-clause-ready g c κs within =
    let stored = g.D.B.Block.stored in
    let outside = outside_of (g.H.Host.shown c.args.host.now) g.D.Devices.tells (g.D.Devices.state c.args.devices.now) in
    let left = remains_of (g.H.Host.last c.make_ready.new.host) (g.D.Devices.state c.taken.new.devices) in
    let is = rw g.met.D.Devices.told at c.in-Ok-make_ready.ensures.gives outside left in
    let back = lent_back stored c.in-Ok-taken.blocks.items c.as_mut_slice.result.now c.make_ready.new.blocks c.in-Ok-taken.blocks.len
    c.as_mut_slice.ensures.value (search rules) is.0.count in
    subst (λ (l : List _). MayServe g.D.Devices.tells c.args.serve.now c.in-Ok-make_ready.ready (map stored l)) (sym back)
    (may-serve c.args.serve.now c.in-Ok.workers outside left c.in-Ok.ensures c.in-Ok-make_ready.ready
    (map stored c.as_mut_slice.result.now) (map stored c.make_ready.new.blocks) is)

pub returns-in-Ok-finish-clause-gives : goal.returns-in-Ok-finish-clause-gives
returns-in-Ok-finish-clause-gives g c =
    let stored = g.D.B.Block.stored in
    let outside = outside_of (g.H.Host.shown c.args.host.now) g.D.Devices.tells (g.D.Devices.state c.args.devices.now) in
    let left = remains_of (g.H.Host.last c.make_ready.new.host) (g.D.Devices.state c.finish.new.devices) in
    let is = rw g.met.D.Devices.told at c.in-Ok-make_ready.ensures.gives outside left in
    let back = lent_back stored c.in-Ok-taken.blocks.items c.as_mut_slice.result.now c.make_ready.new.blocks c.in-Ok-taken.blocks.len
    c.as_mut_slice.ensures.value (search rules) is.0.count in
    let taken = rw (sym c.as_mut_slice.ensures.value) at c.in-Ok-taken.ensures.taken in
    serve-gives c.args.serve.now c.in-Ok.workers outside left c.in-Ok.ensures (g.D.Devices.state c.taken.new.devices)
    (map stored c.as_mut_slice.result.now) (map stored c.make_ready.new.blocks) taken c.in-Ok-make_ready.ready is c.args.ends.now
    c.finish.new.ends AllocError c.in-Ok-finish.delivery (rw back at c.in-Ok-finish.ensures) (g.met.D.Devices.whole c.finish.new.devices)

pub returns-in-Ok-finish-clause-home : goal.returns-in-Ok-finish-clause-home
returns-in-Ok-finish-clause-home g c =
    let stored = g.D.B.Block.stored in
    let outside = outside_of (g.H.Host.shown c.args.host.now) g.D.Devices.tells (g.D.Devices.state c.args.devices.now) in
    let left = remains_of (g.H.Host.last c.make_ready.new.host) (g.D.Devices.state c.finish.new.devices) in
    let is = rw g.met.D.Devices.told at c.in-Ok-make_ready.ensures.gives outside left in
    let back = lent_back stored c.in-Ok-taken.blocks.items c.as_mut_slice.result.now c.make_ready.new.blocks c.in-Ok-taken.blocks.len
    c.as_mut_slice.ensures.value (search rules) is.0.count in
    let taken = rw (sym c.as_mut_slice.ensures.value) at c.in-Ok-taken.ensures.taken in
    serve-home c.args.serve.now c.in-Ok.workers outside left c.in-Ok.ensures (g.D.Devices.state c.taken.new.devices)
    (map stored c.as_mut_slice.result.now) (map stored c.make_ready.new.blocks) taken c.in-Ok-make_ready.ready is c.args.ends.now
    c.finish.new.ends AllocError c.in-Ok-finish.delivery (rw back at c.in-Ok-finish.ensures)

pub returns-in-Ok-finish-clause-devices : goal.returns-in-Ok-finish-clause-devices
returns-in-Ok-finish-clause-devices g c =
    let stored = g.D.B.Block.stored in
    let outside = outside_of (g.H.Host.shown c.args.host.now) g.D.Devices.tells (g.D.Devices.state c.args.devices.now) in
    let left = remains_of (g.H.Host.last c.make_ready.new.host) (g.D.Devices.state c.finish.new.devices) in
    let is = rw g.met.D.Devices.told at c.in-Ok-make_ready.ensures.gives outside left in
    let back = lent_back stored c.in-Ok-taken.blocks.items c.as_mut_slice.result.now c.make_ready.new.blocks c.in-Ok-taken.blocks.len
    c.as_mut_slice.ensures.value (search rules) is.0.count in
    let taken = rw (sym c.as_mut_slice.ensures.value) at c.in-Ok-taken.ensures.taken in
    serve-devices c.args.serve.now c.in-Ok.workers outside left c.in-Ok.ensures (g.D.Devices.state c.taken.new.devices)
    (map stored c.as_mut_slice.result.now) (map stored c.make_ready.new.blocks) taken c.in-Ok-make_ready.ready is c.args.ends.now
    c.finish.new.ends AllocError c.in-Ok-finish.delivery (rw back at c.in-Ok-finish.ensures)

pub returns-in-Err-make_ready-clause-gives : goal.returns-in-Err-make_ready-clause-gives
returns-in-Err-make_ready-clause-gives g c =
    let stored = g.D.B.Block.stored in
    let outside = outside_of (g.H.Host.shown c.args.host.now) g.D.Devices.tells (g.D.Devices.state c.args.devices.now) in
    let left = remains_of (g.H.Host.last c.make_ready.new.host) (g.D.Devices.state c.bring_all.new.devices) in
    let is = rw g.met.D.Devices.told at c.in-Err-make_ready.ensures.gives outside left in
    let back = lent_back stored c.in-Ok-taken.blocks.items c.as_mut_slice.result.now c.make_ready.new.blocks c.in-Ok-taken.blocks.len
    c.as_mut_slice.ensures.value (search rules) is.0.count in
    let taken = rw (sym c.as_mut_slice.ensures.value) at c.in-Ok-taken.ensures.taken in
    let brings = rw back at c.bring_all.ensures.home in
    ready-answers c.args.serve.now c.in-Ok.workers outside left c.in-Ok.ensures (g.D.Devices.state c.taken.new.devices)
    (map stored c.as_mut_slice.result.now) taken content_of (map stored c.make_ready.new.blocks) c.in-Err-make_ready.undone is.1
    (rose_home g.D.Devices.tells _ _ _ _ _ _ taken is.0.count brings) c.args.ends.now

pub returns-in-Err-make_ready-clause-cause : goal.returns-in-Err-make_ready-clause-cause
returns-in-Err-make_ready-clause-cause g c =
    let stored = g.D.B.Block.stored in
    let outside = outside_of (g.H.Host.shown c.args.host.now) g.D.Devices.tells (g.D.Devices.state c.args.devices.now) in
    let left = remains_of (g.H.Host.last c.make_ready.new.host) (g.D.Devices.state c.bring_all.new.devices) in
    let is = rw g.met.D.Devices.told at c.in-Err-make_ready.ensures.gives outside left in
    let back = lent_back stored c.in-Ok-taken.blocks.items c.as_mut_slice.result.now c.make_ready.new.blocks c.in-Ok-taken.blocks.len
    c.as_mut_slice.ensures.value (search rules) is.0.count in
    let taken = rw (sym c.as_mut_slice.ensures.value) at c.in-Ok-taken.ensures.taken in
    let brings = rw back at c.bring_all.ensures.home in
    cause-of Ready Delivery _ _ c.in-Err-make_ready.undone (λ why. elim why [
      | inl rose ↦ inl rose
      | inr fault ↦ inr (rose_home g.D.Devices.tells _ _ _ _ _ _ taken is.0.count brings fault)
    ]) c.in-Err-make_ready.ensures.cause

pub returns-in-Err-make_ready-clause-home : goal.returns-in-Err-make_ready-clause-home
returns-in-Err-make_ready-clause-home g c =
    let stored = g.D.B.Block.stored in
    let outside = outside_of (g.H.Host.shown c.args.host.now) g.D.Devices.tells (g.D.Devices.state c.args.devices.now) in
    let left = remains_of (g.H.Host.last c.make_ready.new.host) (g.D.Devices.state c.bring_all.new.devices) in
    let is = rw g.met.D.Devices.told at c.in-Err-make_ready.ensures.gives outside left in
    let back = lent_back stored c.in-Ok-taken.blocks.items c.as_mut_slice.result.now c.make_ready.new.blocks c.in-Ok-taken.blocks.len
    c.as_mut_slice.ensures.value (search rules) is.0.count in
    let taken = rw (sym c.as_mut_slice.ensures.value) at c.in-Ok-taken.ensures.taken in
    let brings = rw back at c.bring_all.ensures.home in
    leaves-of Delivery outside left c.in-Err-make_ready.undone (back_home g.D.Devices.tells _ _ _ _ _ _ taken is.0.count brings)
    (keeps_files g.D.Devices.tells _ _ _ _ _ _ taken is.0.count brings is.0)

pub returns-in-Err-make_ready-clause-devices : goal.returns-in-Err-make_ready-clause-devices
returns-in-Err-make_ready-clause-devices g c =
    let stored = g.D.B.Block.stored in
    let outside = outside_of (g.H.Host.shown c.args.host.now) g.D.Devices.tells (g.D.Devices.state c.args.devices.now) in
    let left = remains_of (g.H.Host.last c.make_ready.new.host) (g.D.Devices.state c.bring_all.new.devices) in
    let is = rw g.met.D.Devices.told at c.in-Err-make_ready.ensures.gives outside left in
    let back = lent_back stored c.in-Ok-taken.blocks.items c.as_mut_slice.result.now c.make_ready.new.blocks c.in-Ok-taken.blocks.len
    c.as_mut_slice.ensures.value (search rules) is.0.count in
    let taken = rw (sym c.as_mut_slice.ensures.value) at c.in-Ok-taken.ensures.taken in
    let brings = rw back at c.bring_all.ensures.home in
    changes_own g.D.Devices.tells _ _ _ _ _ _ taken is.0.count brings
