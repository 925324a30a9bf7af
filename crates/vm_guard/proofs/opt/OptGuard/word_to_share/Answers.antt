-- The look finds the page Locked, or at another version, or without room; else the word is as it has to be.
use Rattle.std.proofs.lemmas.Result.{IfOk-from_err}
use Rattle.vm_guard.proofs.{Denials.denied-at-once, Denials.looked-bare, Sharing.share-refused, Sure.found-as}
use Rattle.vm_guard.proofs.{Sure.room-refused, Sure.valid-sure}
use Rattle.vm_guard.proofs.Prelude.{err_from_is_err_and, MayShare, NoneExpected, NotWorn}
use Rattle.vm_guard.proofs.opt.OptGuard.word_to_share.Goals as goal

pub returns-in-Err-clause-denied : goal.returns-in-Err-clause-denied
returns-in-Err-clause-denied g c =
    let k = c.in-Err.ensures.err in
    rw k.0 (share-refused g.U.Owner.tied _ _ _ _ c.look_silently-word.ensures.told c.args.self.now.frame _
    c.requires.reading k.1)

pub returns-in-Err-clause-bare : goal.returns-in-Err-clause-bare
returns-in-Err-clause-bare g c = looked-bare c.look_silently-word.ensures.told

pub returns-in-Err-clause-sure : goal.returns-in-Err-clause-sure
returns-in-Err-clause-sure g c a at room =
    absurd (valid-sure g.U.Owner.tied c.args.self.now.pid _ _ c.args.self.now.word _ _
    c.look_silently-word.ensures.told a c.in-Err.ensures.err.1 at)

pub returns-in_err-room-clause-found : goal.returns-in_err-room-clause-found
returns-in_err-room-clause-found g c = IfOk-from_err c.from_residual.result _ c.from_residual.ensures.0

pub returns-in_err-room-clause-denied : goal.returns-in_err-room-clause-denied
returns-in_err-room-clause-denied g c =
    let p = err_from_is_err_and c.from_residual.result c.from_residual.ensures.1 in
    let why = c.in_err-room.ensures.refused in
    rw (p.1, p.2) (denied-at-once g.U.Owner.tied NotWorn NoneExpected c.args.self.now.pid c.look_silently-word.result
    c.in_err-room.field-0.0 _ _ c.look_silently-word.ensures.told why.0 why.1).0

pub returns-in_err-room-clause-bare : goal.returns-in_err-room-clause-bare
returns-in_err-room-clause-bare g c =
    let p = err_from_is_err_and c.from_residual.result c.from_residual.ensures.1 in
    rw p.1 (looked-bare c.look_silently-word.ensures.told)

pub returns-in_err-room-clause-sure : goal.returns-in_err-room-clause-sure
returns-in_err-room-clause-sure g c a at room =
    let why = c.in_err-room.ensures.refused in
    absurd (room-refused c.args.self.now.pid c.look_silently-word.result _ why.0 why.1
    (found-as g.U.Owner.tied c.args.self.now.pid _ _ _ c.look_silently-word.ensures.told a MayShare room))

pub returns-clause-found : goal.returns-clause-found
returns-clause-found g c =
    let ok = c.in-Ok.ensures.ok in
    record { look = c.look_silently-word.ensures.told; version_is = ok.0; unlocked = ok.1; small = ok.2; room = c.in_ok-room.ensures.ok }
