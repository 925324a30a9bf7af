-- The look, the exchange and the load of the translation word give each answer.
use Rattle.vm_guard.proofs.Lockings.{page-looked}
use Rattle.vm_guard.proofs.{Denials.denied-at-once, Denials.denied-lost, Denials.looked-bare, Denials.lost-bare}
use Rattle.vm_guard.proofs.{Lockings.share-locking, Lockings.shared, QuietSteps.share-lost}
use Rattle.vm_guard.proofs.Prelude.{err_from_is_err_and, inl, MayShare, NoneExpected, NotWorn, one_share_more, refl}
use Rattle.vm_guard.proofs.Prelude.{state_of, version_of, word_of}
use Rattle.vm_guard.proofs.Sure.{found-as, room-refused, share-sure}
use Rattle.vm_guard.proofs.shared.SharedGuard.take.Goals as goal

pub returns-in_err-room-clause-denied : goal.returns-in_err-room-clause-denied
returns-in_err-room-clause-denied g c =
    let p = err_from_is_err_and c.from_residual.result c.from_residual.ensures.1 in
    let why = c.in_err-room.ensures.refused in
    rw (p.1, p.2) (denied-at-once g.U.Owner.tied NotWorn NoneExpected c.args.pid c.look_silently-word.result
    c.in_err-room.field-0.0 _ _ c.look_silently-word.ensures.told why.0 why.1).0

pub standing-requires-clause-locked : goal.standing-requires-clause-locked
standing-requires-clause-locked g c = share-locking c.in-Taken.ensures.told

pub returns-in-Lost-clause-denied : goal.returns-in-Lost-clause-denied
returns-in-Lost-clause-denied g c =
    let word = c.look_silently-word.result in
    let lost = c.in-Lost.ensures in
    let other = lost.lost c.in-Lost.seen refl in
    (denied-lost g.U.Owner.tied NotWorn NoneExpected c.args.pid word word c.in-Lost.seen
    (word_of (one_share_more (state_of word)) (version_of word)) _ _ _ c.look_silently-word.ensures.told
    (share-lost _ _ _ _ _ _ other lost.told) (inl refl) other tt).0

pub returns-in-Taken-clause-taken : goal.returns-in-Taken-clause-taken
returns-in-Taken-clause-taken g c = (
  refl,
  shared _ _ _ _ _ _ _ _ _ c.look_silently-word.ensures.told c.in_ok-room.ensures.ok c.in-Taken.ensures.told
      c.standing.ensures.told.1 c.standing.ensures.told.2
      (page-looked c.look_silently-word.ensures.told c.look_silently-word.ensures.goes.ready.table.is_shape.pages c.requires.page),
)

pub returns-in_err-room-clause-sure : goal.returns-in_err-room-clause-sure
returns-in_err-room-clause-sure g c a room =
    let why = c.in_err-room.ensures.refused in
    absurd (room-refused c.args.pid c.look_silently-word.result _ why.0 why.1
    (found-as g.U.Owner.tied c.args.pid _ _ _ c.look_silently-word.ensures.told a MayShare room))

pub returns-in-Lost-clause-sure : goal.returns-in-Lost-clause-sure
returns-in-Lost-clause-sure g c a room =
    let lost = c.in-Lost.ensures in
    absurd (share-sure g.U.Owner.tied c.args.pid c.look_silently-word.result _ _ c.look_silently-word.ensures.told a _
    _ lost.told (lost.lost _ refl))

pub returns-in_err-room-clause-bare : goal.returns-in_err-room-clause-bare
returns-in_err-room-clause-bare g c =
    let p = err_from_is_err_and c.from_residual.result c.from_residual.ensures.1 in
    rw p.1 (looked-bare c.look_silently-word.ensures.told)

pub returns-in-Lost-clause-bare : goal.returns-in-Lost-clause-bare
returns-in-Lost-clause-bare g c =
    let other = c.in-Lost.ensures.lost c.in-Lost.seen refl in
    lost-bare _ _ _ c.look_silently-word.ensures.told (share-lost _ _ _ _ _ _ other c.in-Lost.ensures.told) other
