-- The look tells that the page still has the guard's version; then the exchange is at that version.
use Rattle.std.proofs.lemmas.Result.{IfOk-from_err}
use Rattle.vm_guard.proofs.{Denials.denied-lost, Denials.lost-bare, QuietSteps.share-lost, Sharing.shared-at, Sure.share-sure}
use Rattle.vm_guard.proofs.Prelude.{err_from_is_err_and, inl, NoneExpected, NotWorn, one_share_more, refl, state_of, version_of, word_of}
use Rattle.vm_guard.proofs.opt.OptGuard.share_silently.Goals as goal

pub lock_shared_silently-requires-clause-legal : goal.lock_shared_silently-requires-clause-legal
lock_shared_silently-requires-clause-legal g c = c.in_ok-word.ensures.found.room.share

pub returns-in_err-word-clause-denied : goal.returns-in_err-word-clause-denied
returns-in_err-word-clause-denied g c = let p = err_from_is_err_and c.from_residual.result
    c.from_residual.ensures.1 in rw (p.1, p.2) c.in_err-word.ensures.denied

pub returns-in_err-word-clause-bare : goal.returns-in_err-word-clause-bare
returns-in_err-word-clause-bare g c =
    let p = err_from_is_err_and c.from_residual.result c.from_residual.ensures.1 in rw p.1 c.in_err-word.ensures.bare

pub returns-in_err-word-clause-sure : goal.returns-in_err-word-clause-sure
returns-in_err-word-clause-sure g c a at room = let p = err_from_is_err_and c.from_residual.result
    c.from_residual.ensures.1 in rw p.1 (c.in_err-word.ensures.sure a at room)

pub returns-in_err-word-clause-taken : goal.returns-in_err-word-clause-taken
returns-in_err-word-clause-taken g c = IfOk-from_err c.from_residual.result _ c.from_residual.ensures.0

pub returns-in_err-word-clause-kept : goal.returns-in_err-word-clause-kept
returns-in_err-word-clause-kept g c tells = IfOk-from_err c.from_residual.result _ c.from_residual.ensures.0

pub returns-in-Lost-clause-denied : goal.returns-in-Lost-clause-denied
returns-in-Lost-clause-denied g c =
    let word = c.in_ok-word.word in
    let lost = c.in-Lost.ensures in
    let other = lost.lost c.in-Lost.seen refl in
    (denied-lost g.U.Owner.tied NotWorn NoneExpected c.args.self.pid word word c.in-Lost.seen
    (word_of (one_share_more (state_of word)) (version_of word)) _ _ _ c.in_ok-word.ensures.found.look
    (share-lost _ _ _ _ _ _ other lost.told) (inl refl) other tt).0

pub returns-in-Lost-clause-bare : goal.returns-in-Lost-clause-bare
returns-in-Lost-clause-bare g c =
    let other = c.in-Lost.ensures.lost c.in-Lost.seen refl in
    lost-bare _ _ _ c.in_ok-word.ensures.found.look (share-lost _ _ _ _ _ _ other c.in-Lost.ensures.told) other

pub returns-in-Lost-clause-sure : goal.returns-in-Lost-clause-sure
returns-in-Lost-clause-sure g c a at room =
    let lost = c.in-Lost.ensures in
    absurd (share-sure g.U.Owner.tied c.args.self.pid c.in_ok-word.word _ _ c.in_ok-word.ensures.found.look a _ _
    lost.told (lost.lost _ refl))

pub returns-in-Taken-clause-taken : goal.returns-in-Taken-clause-taken
returns-in-Taken-clause-taken g c =
    let k = c.in_ok-word.ensures.found in (
      refl,
      shared-at g.U.Owner.tied _ _ _ _ k.look c.args.self.frame _ c.requires.reading k.version_is k.unlocked
          k.small k.room _ _ c.in-Taken.ensures.told,
    )

pub returns-in-Taken-clause-kept : goal.returns-in-Taken-clause-kept
returns-in-Taken-clause-kept g c tells = c.in-Taken.ensures.kept tells refl
