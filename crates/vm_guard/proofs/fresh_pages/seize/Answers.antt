-- The look, the exchange and the load of the translation word give each answer.
use Rattle.vm_guard.proofs.Lockings.{page-looked}
use Rattle.std.proofs.lemmas.Result.{IfOk-from_err}
use Rattle.vm_guard.proofs.{Denials.denied-at-once, Denials.denied-lost, QuietSteps.lock-lost, Seizing.seizes}
use Rattle.vm_guard.proofs.Prelude.{AgainOrWorn, err_from_is_err_and, inl, inr, LOCKED, LocksNone, mapping_of}
use Rattle.vm_guard.proofs.Prelude.{MayBeSeized, refl, Seizes, subst, sym, UnlockedExpected, version_of, view}
use Rattle.vm_guard.proofs.Prelude.{word_of, ⊎_elim, ◌≡◌}
use Rattle.vm_guard.proofs.Sure.{found-as, lock-sure, refused-worn, seize-refused, seized-none}
use Rattle.vm_step.proofs.Going.{goes-then}
use Rattle.vm_guard.proofs.fresh_pages.seize.Goals as goal

pub returns-in_err-expects-clause-denied : goal.returns-in_err-expects-clause-denied
returns-in_err-expects-clause-denied g c =
    let p = err_from_is_err_and c.from_residual.result c.from_residual.ensures.1 in
    let why = c.in_err-expects.ensures.denied in
    let d = denied-at-once g.U.Owner.tied AgainOrWorn UnlockedExpected c.args.pid c.look_silently-word.result
    c.in_err-expects.field-0.0 _ _ c.look_silently-word.ensures.told why.0 why.1 in
    rw (p.1, p.2) (record {
      page = page-looked c.look_silently-word.ensures.told c.look_silently-word.ensures.goes.ready.table.is_shape.pages c.requires.page;
      denied = d.0;
      places_are = d.1;
      bare = d.2;
    })

pub returns-in_err-expects-clause-sure : goal.returns-in_err-expects-clause-sure
returns-in_err-expects-clause-sure g c a may =
    let why = c.in_err-expects.ensures.denied in
    absurd (seize-refused c.args.pid c.look_silently-word.result _ why.0 why.1
    (found-as g.U.Owner.tied c.args.pid _ _ _ c.look_silently-word.ensures.told a MayBeSeized may))

pub returns-in-Lost-clause-denied : goal.returns-in-Lost-clause-denied
returns-in-Lost-clause-denied g c =
    let other = c.in-Lost.ensures.lost c.in-Lost.seen refl in
    let from = ⊎_elim (λ (e : c.in_ok-expects.expects ≡ c.look_silently-word.result). inl (sym e)) (λ h. inr h)
    c.in_ok-expects.ensures.ok.1 in
    let d = denied-lost g.U.Owner.tied AgainOrWorn UnlockedExpected c.args.pid c.look_silently-word.result
    c.in_ok-expects.expects c.in-Lost.seen (word_of LOCKED (version_of c.in_ok-expects.expects)) _ _ _
    c.look_silently-word.ensures.told
    (lock-lost _ _ _ _ _ _ other c.in-Lost.ensures.told) from other tt in
    record {
      page = page-looked c.look_silently-word.ensures.told c.look_silently-word.ensures.goes.ready.table.is_shape.pages c.requires.page;
      denied = d.0;
      places_are = d.1;
      bare = d.2;
    }

pub returns-in-Lost-clause-sure : goal.returns-in-Lost-clause-sure
returns-in-Lost-clause-sure g c a may =
    let lost = c.in-Lost.ensures in
    absurd (lock-sure g.U.Owner.tied c.args.pid _ _ _ c.look_silently-word.ensures.told a _ _ _ lost.told
    c.in_ok-expects.ensures.ok.1 (lost.lost _ refl) (seized-none _ may))

pub returns-in_err-expects-clause-settled : goal.returns-in_err-expects-clause-settled
returns-in_err-expects-clause-settled g c a none =
    let p = err_from_is_err_and c.from_residual.result c.from_residual.ensures.1 in
    let why = c.in_err-expects.ensures.denied in
    rw (p.1, p.2) (refused-worn c.args.pid c.look_silently-word.result _ why.0 why.1
    (found-as g.U.Owner.tied c.args.pid _ _ _ c.look_silently-word.ensures.told a LocksNone none))

pub returns-in-Lost-clause-settled : goal.returns-in-Lost-clause-settled
returns-in-Lost-clause-settled g c a none =
    let lost = c.in-Lost.ensures in
    absurd (lock-sure g.U.Owner.tied c.args.pid _ _ _ c.look_silently-word.ensures.told a _ _ _ lost.told
    c.in_ok-expects.ensures.ok.1 (lost.lost _ refl) none)

pub returns-in-Taken-clause-taken : goal.returns-in-Taken-clause-taken
returns-in-Taken-clause-taken g c = (
  refl,
  subst (λ o. Seizes c.args.pid c.version.result o (view c.args.pass.now) (view c.tload.new.pass)) (sym c.mapping_said-stands.ensures)
      (subst (λ n. Seizes c.args.pid n (mapping_of c.tload.result) (view c.args.pass.now) (view c.tload.new.pass)) (sym c.version.ensures)
      (seizes g.U.Owner.tied c.args.pid c.look_silently-word.result c.in_ok-expects.expects c.tload.result _ _ _ _
      c.look_silently-word.ensures.told c.in-Taken.ensures.told c.tload.ensures.told c.in_ok-expects.ensures.ok.0
      (page-looked c.look_silently-word.ensures.told c.look_silently-word.ensures.goes.ready.table.is_shape.pages c.requires.page))),
)

pub returns-in_err-expects-clause-taken : goal.returns-in_err-expects-clause-taken
returns-in_err-expects-clause-taken g c = IfOk-from_err c.from_residual.result _ c.from_residual.ensures.0

pub lock_exclusive-requires-clause-legal : goal.lock_exclusive-requires-clause-legal
lock_exclusive-requires-clause-legal g c = c.in_ok-expects.ensures.ok.0.may_lock

pub returns-in_err-expects-clause-goes : goal.returns-in_err-expects-clause-goes
returns-in_err-expects-clause-goes g c = c.look_silently-word.ensures.goes

pub returns-in-Lost-clause-goes : goal.returns-in-Lost-clause-goes
returns-in-Lost-clause-goes g c = goes-then c.look_silently-word.ensures.goes c.in-Lost.ensures.goes

pub returns-in-Taken-clause-goes : goal.returns-in-Taken-clause-goes
returns-in-Taken-clause-goes g c = goes-then (goes-then c.look_silently-word.ensures.goes c.in-Taken.ensures.goes) c.tload.ensures.goes
