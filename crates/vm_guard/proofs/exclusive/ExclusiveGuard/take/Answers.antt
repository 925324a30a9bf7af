-- The look, the exchange and the load of the translation word give each answer.
use Rattle.vm_guard.proofs.{Denials.denied-at-once, Denials.denied-lost, Denials.looked-bare, Denials.lost-bare, QuietSteps.lock-lost}
use Rattle.std.proofs.lemmas.Result.{IfOk-from_err}
use Rattle.vm_guard.proofs.Lockings.{lock-owns, lock-resident, locked, page-looked}
use Rattle.vm_guard.proofs.Prelude.{err_from_is_err_and, inl, inr, IsLocked, IsUnlockedWord, LOCKED, MAX_VERSION}
use Rattle.vm_guard.proofs.Prelude.{NotCrowded, refl, subst, sym, UnlockedExpected, version_of, view, word_of, ⊎_elim}
use Rattle.vm_guard.proofs.Prelude.{◌<◌, ◌≡◌}
use Rattle.vm_guard.proofs.Sure.{found-as, free-none, free-refused, lock-sure}
use Rattle.vm_step.proofs.Going.{goes-then}
use Rattle.vm_guard.proofs.exclusive.ExclusiveGuard.take.Goals as goal

pub returns-in_err-expects-clause-denied : goal.returns-in_err-expects-clause-denied
returns-in_err-expects-clause-denied g c =
    let p = err_from_is_err_and c.from_residual.result c.from_residual.ensures.1 in
    let why = c.in_err-expects.ensures.denied in
    rw (p.1, p.2) (denied-at-once g.U.Owner.tied NotCrowded UnlockedExpected c.args.pid c.look_silently-word.result
    c.in_err-expects.field-0.0 _ _ c.look_silently-word.ensures.told why.0 why.1).0

pub standing-stands-requires-clause-locked : goal.standing-stands-requires-clause-locked
standing-stands-requires-clause-locked g c = inl (lock-owns c.in-Taken.ensures.told)

pub standing-stands-requires-clause-resident : goal.standing-stands-requires-clause-resident
standing-stands-requires-clause-resident g c = lock-resident c.in-Taken.ensures.told c.in_ok-expects.ensures.ok.resident

pub returns-in-Lost-clause-denied : goal.returns-in-Lost-clause-denied
returns-in-Lost-clause-denied g c =
    let lost = c.in-Lost.ensures in
    let other = lost.lost c.in-Lost.seen refl in
    (denied-lost g.U.Owner.tied NotCrowded UnlockedExpected c.args.pid c.look_silently-word.result
    c.in_ok-expects.expects c.in-Lost.seen (word_of LOCKED (version_of c.in_ok-expects.expects)) _ _ _
    c.look_silently-word.ensures.told
    (lock-lost _ _ _ _ _ _ other lost.told)
    (⊎_elim (λ (e : c.in_ok-expects.expects ≡ c.look_silently-word.result). inl (sym e)) (λ h. inr h)
    c.in_ok-expects.ensures.kept) other tt).0

pub returns-in-Taken-clause-taken : goal.returns-in-Taken-clause-taken
returns-in-Taken-clause-taken g c = (
  refl,
  subst (λ n. IsLocked g.U.Owner.tied c.args.pid c.standing-stands.result.frame n c.standing-stands.result.dirty
      (view c.args.pass.now) (view c.standing-stands.new.pass)) (sym c.version.ensures)
      (locked _ _ _ _ _ _ _ _ _ _ c.look_silently-word.ensures.told c.in_ok-expects.ensures.ok c.in-Taken.ensures.told
      c.standing-stands.ensures.told.1 c.standing-stands.ensures.told.2
      (page-looked c.look_silently-word.ensures.told c.look_silently-word.ensures.goes.ready.table.is_shape.pages c.requires.page)),
)

pub returns-in_err-expects-clause-sure : goal.returns-in_err-expects-clause-sure
returns-in_err-expects-clause-sure g c a free below =
    let why = c.in_err-expects.ensures.denied in
    let at = found-as g.U.Owner.tied c.args.pid _ _ _ c.look_silently-word.ensures.told a in
    absurd (free-refused c.args.pid c.look_silently-word.result _ why.0 why.1 (at IsUnlockedWord free)
    (at (λ n. version_of n < MAX_VERSION) below))

pub returns-in-Lost-clause-sure : goal.returns-in-Lost-clause-sure
returns-in-Lost-clause-sure g c a free below =
    let lost = c.in-Lost.ensures in
    absurd (lock-sure g.U.Owner.tied c.args.pid _ _ _ c.look_silently-word.ensures.told a _ _ _ lost.told
    c.in_ok-expects.ensures.kept (lost.lost _ refl) (free-none _ free))

pub returns-in_err-expects-clause-taken : goal.returns-in_err-expects-clause-taken
returns-in_err-expects-clause-taken g c = IfOk-from_err c.from_residual.result _ c.from_residual.ensures.0

pub returns-in-Lost-clause-goes : goal.returns-in-Lost-clause-goes
returns-in-Lost-clause-goes g c = goes-then c.look_silently-word.ensures.goes c.in-Lost.ensures.goes

pub returns-in-Taken-clause-goes : goal.returns-in-Taken-clause-goes
returns-in-Taken-clause-goes g c =
    goes-then (goes-then c.look_silently-word.ensures.goes c.in-Taken.ensures.goes) c.standing-stands.ensures.goes

pub returns-in_err-expects-clause-bare : goal.returns-in_err-expects-clause-bare
returns-in_err-expects-clause-bare g c =
    let p = err_from_is_err_and c.from_residual.result c.from_residual.ensures.1 in
    rw p.1 (looked-bare c.look_silently-word.ensures.told)

pub returns-in-Lost-clause-bare : goal.returns-in-Lost-clause-bare
returns-in-Lost-clause-bare g c =
    let other = c.in-Lost.ensures.lost c.in-Lost.seen refl in
    lost-bare _ _ _ c.look_silently-word.ensures.told (lock-lost _ _ _ _ _ _ other c.in-Lost.ensures.told) other
