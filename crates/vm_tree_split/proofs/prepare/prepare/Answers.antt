use Rattle.std.proofs.Common.{◌++◌, refl}
use Rattle.std.proofs.lemmas.Result.{IfErr-weaker, IfOk-weaker}
use Rattle.vm_step.specs.Prelude.{AreHeld, view}
use Rattle.vm_tree_read.specs.from_vm_guard.Groups.{guards_of}
use Rattle.vm_tree_read.specs.Waiting.{LosesNone}
use Rattle.vm_tree_read.proofs.Losing.{loses-then}
use Rattle.vm_tree_draft.specs.Splits.{KeepsLocksOnly}
use Rattle.vm_tree_split.specs.{Prepares.AreTaken, Prepares.IsPrepared, Prepares.IsUntaken, Tries.IsUnsplit}
use Rattle.vm_tree_split.specs.Tries.IsUnsplit.{full, untaken}
use Rattle.vm_tree_draft.proofs.Framing.{keeps-then}
use Rattle.vm_tree_split.proofs.Roomy.{reading-loaded, roomy-held, roomy-keeps, roomy-loses, roomy-out, split-loaded}
use Rattle.vm_tree_split.proofs.Seeing.{sees-few, sees-next, sees-room, sees-then}
use Rattle.vm_tree_split.proofs.prepare.prepare.Goals as goal

pub take_all-requires-clause-home : goal.take_all-requires-clause-home
take_all-requires-clause-home g c = let v = view c.args.pass.now in let x = view c.room_for.new.pass in
    roomy-out v x (sees-room _ v x c.in-Ok.ensures.room) c.requires.home

pub take_all-requires-clause-frames : goal.take_all-requires-clause-frames
take_all-requires-clause-frames g c = let v = view c.args.pass.now in let x = view c.room_for.new.pass in
    roomy-held v x (sees-room _ v x c.in-Ok.ensures.room) _ c.requires.frames

pub take_all-requires-clause-first : goal.take_all-requires-clause-first
take_all-requires-clause-first g c =
    let v = view c.args.pass.now in
    let x = view c.room_for.new.pass in
    reading-loaded v x (sees-room _ v x c.in-Ok.ensures.room) c.args.first.pid c.args.first.word c.args.first.frame c.requires.first

pub take_all-requires-clause-second : goal.take_all-requires-clause-second
take_all-requires-clause-second g c =
    let v = view c.args.pass.now in
    let x = view c.room_for.new.pass in
    reading-loaded v x (sees-room _ v x c.in-Ok.ensures.room) c.args.second.pid c.args.second.word c.args.second.frame c.requires.second

-- ---- there is room

pub returns-in-Ok-clause-ok : goal.returns-in-Ok-clause-ok
returns-in-Ok-clause-ok g c =
    let x = view c.room_for.new.pass in
    let w = view c.take_all.new.pass in
    IfOk-weaker c.take_all.result (λ all. AreTaken g.K.Kind.layout c.args.n c.args.first c.args.second all.up all.low
    (guards_of all.pages) x w)
    (λ all. IsPrepared g.K.Kind.layout c.args.n c.args.first c.args.second all.up all.low (guards_of all.pages)
    (view c.args.pass.now) w)
    (λ all k. record { roomy = x; room = c.in-Ok.ensures.room; taken = k }) c.take_all.ensures.ok

pub returns-in-Ok-clause-lost : goal.returns-in-Ok-clause-lost
returns-in-Ok-clause-lost g c =
    let v = view c.args.pass.now in
    let x = view c.room_for.new.pass in
    let w = view c.take_all.new.pass in
    let old = c.args.iface.now.frames in
    IfOk-weaker c.take_all.result (λ all. LosesNone old x (c.take_all.new.iface.frames ++ all.frames) w)
    (λ all. LosesNone old v (c.take_all.new.iface.frames ++ all.frames) w)
    (λ all k. loses-then old old (c.take_all.new.iface.frames ++ all.frames) v x w
    (roomy-loses v x (sees-room _ v x c.in-Ok.ensures.room) old) k) c.take_all.ensures.lost

pub returns-in-Ok-clause-lost_none : goal.returns-in-Ok-clause-lost_none
returns-in-Ok-clause-lost_none g c =
    let v = view c.args.pass.now in
    let x = view c.room_for.new.pass in
    let w = view c.take_all.new.pass in
    let old = c.args.iface.now.frames in
    let new = c.take_all.new.iface.frames in
    IfErr-weaker c.take_all.result (λ _. LosesNone old x new w) (λ _. LosesNone old v new w)
    (λ _ k. loses-then old old new v x w (roomy-loses v x (sees-room _ v x c.in-Ok.ensures.room) old) k) c.take_all.ensures.lost_none

pub returns-in-Ok-clause-err : goal.returns-in-Ok-clause-err
returns-in-Ok-clause-err g c =
    let v = view c.args.pass.now in
    let x = view c.room_for.new.pass in
    let w = view c.take_all.new.pass in
    let h = c.in-Ok.ensures.room in
    IfErr-weaker c.take_all.result
    (λ answer. AreHeld c.take_all.new.iface.frames w × KeepsLocksOnly x w × IsUntaken g.K.Kind.layout c.args.n
    c.args.first c.args.second x w answer)
    (λ answer. AreHeld c.take_all.new.iface.frames w × KeepsLocksOnly v w × IsUnsplit g.K.Kind.plain g.K.Kind.layout
    g.K.Kind.spare c.args.n c.args.first c.args.second v w answer)
    (λ answer k. (k.0, keeps-then v x w (roomy-keeps v x (sees-room _ v x h)) k.1, untaken x h k.2)) c.take_all.ensures.err

pub returns-in-Ok-clause-sure : goal.returns-in-Ok-clause-sure
returns-in-Ok-clause-sure g c k =
    let v = view c.args.pass.now in
    let x = view c.room_for.new.pass in
    c.take_all.ensures.sure (split-loaded v x (sees-room _ v x c.in-Ok.ensures.room) c.args.first c.args.second k)

-- ---- no free-number word has so many bits, and too few pages are left

pub returns-in-Err-clause-err : goal.returns-in-Err-clause-err
returns-in-Err-clause-err g c =
    let v = view c.args.pass.now in
    let w = view c.room_for.new.pass in
    let f = c.in-Err.ensures.full in
    let s = sees-then v f.0 w (sees-few _ v f.0 f.1) (sees-next _ f.0 w f.2.loaded) in
    (roomy-held v w s _ c.requires.frames, roomy-keeps v w s, full _ _ _ f.0 f.1 f.2 refl)

pub returns-in-Err-clause-lost_none : goal.returns-in-Err-clause-lost_none
returns-in-Err-clause-lost_none g c =
    let v = view c.args.pass.now in
    let w = view c.room_for.new.pass in
    let f = c.in-Err.ensures.full in
    roomy-loses v w (sees-then v f.0 w (sees-few _ v f.0 f.1) (sees-next _ f.0 w f.2.loaded)) c.args.iface.now.frames
