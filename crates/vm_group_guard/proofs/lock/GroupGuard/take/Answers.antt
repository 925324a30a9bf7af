-- The look, the exchange and the loads of the translation words give each answer.
use Rattle.std.proofs.lemmas.Result.{err_from_is_err_and, IfOk-from_err}
use Rattle.std.specs.Prelude.{IsSome}
use Rattle.vm_rule.specs.Prelude.{LockTold}
use Rattle.vm_group_guard.proofs.Locking.{locked-all, page-stands}
use Rattle.vm_group_guard.proofs.PagesUnder.{in-turn-over}
use Rattle.vm_group_guard.proofs.Prelude.{ap, inl, inr, length, List, LookTells, map, mapping_of, None, refl}
use Rattle.vm_group_guard.proofs.Prelude.{slice_index, subst, sym, ℕ, ⊎_elim, ◌+◌, ◌<◌, ◌∙◌, ◌≡◌, ◌≤◌}
use Rattle.vm_group_guard.proofs.Refusals.{bare-lost, bare-now, denied-lost, denied-now}
use Rattle.vm_step.proofs.Going.{goes-then}
use Rattle.vm_group_guard.proofs.lock.GroupGuard.take.Goals as goal

pub returns-in_err-expects-clause-denied : goal.returns-in_err-expects-clause-denied
returns-in_err-expects-clause-denied g c =
    let p = err_from_is_err_and c.from_residual.result c.from_residual.ensures.1 in
    let why = c.in_err-expects.ensures.denied in
    rw (p.1, p.2)
    (denied-now g.U.Owner.keeps g.U.Owner.tied g.B.Block.tells c.args.head c.args.size c.requires.group.some
    c.look_group-word.result _ _
    (in-turn-over (λ q. LookTells g.U.Owner.keeps g.U.Owner.tied g.B.Block.tells q None) _ _ _ _ _
    c.requires.group.pages c.look_group-word.ensures.told)
    c.in_err-expects.field-0.0 why.0 why.1)

pub returns-in_err-expects-clause-bare : goal.returns-in_err-expects-clause-bare
returns-in_err-expects-clause-bare g c =
    let p = err_from_is_err_and c.from_residual.result c.from_residual.ensures.1 in
    rw p.1
    (bare-now g.U.Owner.keeps g.U.Owner.tied g.B.Block.tells c.args.head c.args.size c.requires.group.some
    c.look_group-word.result _ _
    (in-turn-over (λ q. LookTells g.U.Owner.keeps g.U.Owner.tied g.B.Block.tells q None) _ _ _ _ _
    c.requires.group.pages c.look_group-word.ensures.told))

pub standings-requires-clause-named : goal.standings-requires-clause-named
standings-requires-clause-named g c =
    subst (λ (ts : List ℕ). (k : ℕ) → k < length ts → IsSome (mapping_of (slice_index ts k)))
    (sym c.as_slice.ensures.value)
    (page-stands g.U.Owner.keeps g.U.Owner.tied g.B.Block.tells c.args.head c.args.size c.requires.group.some
    c.look_group-word.result c.in_ok-expects.expects c.in_ok-expects.ensures.ok.0
    c.translations-translations.result.items _ _ _ _
    (in-turn-over (λ q. LookTells g.U.Owner.keeps g.U.Owner.tied g.B.Block.tells q None) _ _ _ _ _
    c.requires.group.pages c.look_group-word.ensures.told)
    (in-turn-over (λ q. LockTold g.U.Owner.tied q c.in_ok-expects.expects) _ _ _ _ _ c.requires.group.pages
    c.in-Taken.ensures.told)
    c.translations-translations.ensures.told c.translations-translations.ensures.count)

pub returns-in-Lost-clause-denied : goal.returns-in-Lost-clause-denied
returns-in-Lost-clause-denied g c =
    denied-lost g.U.Owner.keeps g.U.Owner.tied g.B.Block.tells c.args.head c.args.size c.requires.group.some
    c.look_group-word.result _ _
    (in-turn-over (λ q. LookTells g.U.Owner.keeps g.U.Owner.tied g.B.Block.tells q None) _ _ _ _ _
    c.requires.group.pages c.look_group-word.ensures.told)
    c.in_ok-expects.expects c.in-Lost.seen _
    (in-turn-over (λ q. LockTold g.U.Owner.tied q c.in_ok-expects.expects) _ _ _ _ _ c.requires.group.pages
    c.in-Lost.ensures.told)
    (c.in-Lost.ensures.lost c.in-Lost.seen refl)
    (⊎_elim (λ (e : c.in_ok-expects.expects ≡ c.look_group-word.result). inl (sym e)) (λ h. inr h)
    c.in_ok-expects.ensures.ok.1)

pub returns-in-Lost-clause-bare : goal.returns-in-Lost-clause-bare
returns-in-Lost-clause-bare g c =
    bare-lost g.U.Owner.keeps g.U.Owner.tied g.B.Block.tells c.args.head c.args.size c.requires.group.some
    c.look_group-word.result _ _
    (in-turn-over (λ q. LookTells g.U.Owner.keeps g.U.Owner.tied g.B.Block.tells q None) _ _ _ _ _
    c.requires.group.pages c.look_group-word.ensures.told)
    c.in_ok-expects.expects c.in-Lost.seen _
    (in-turn-over (λ q. LockTold g.U.Owner.tied q c.in_ok-expects.expects) _ _ _ _ _ c.requires.group.pages
    c.in-Lost.ensures.told)
    (c.in-Lost.ensures.lost c.in-Lost.seen refl)

pub returns-in-Taken-clause-taken : goal.returns-in-Taken-clause-taken
returns-in-Taken-clause-taken g c = (
  refl,
  locked-all g.U.Owner.keeps g.U.Owner.tied g.B.Block.tells c.args.head c.args.size c.requires.group.some
      c.look_group-word.result c.in_ok-expects.expects c.in_ok-expects.ensures.ok.0
      c.translations-translations.result.items _ _ _ _
      (in-turn-over (λ q. LookTells g.U.Owner.keeps g.U.Owner.tied g.B.Block.tells q None) _ _ _ _ _
      c.requires.group.pages c.look_group-word.ensures.told)
      (in-turn-over (λ q. LockTold g.U.Owner.tied q c.in_ok-expects.expects) _ _ _ _ _ c.requires.group.pages
      c.in-Taken.ensures.told)
      c.translations-translations.ensures.told c.translations-translations.ensures.count
      c.standings.result.items c.version.result c.version.ensures
      (subst (λ n. c.args.head + c.args.size ≤ n) (sym c.requires.ready.table.is_shape.pages) c.requires.group.inside)
      (ap (map (λ t. mapping_of t)) (sym c.as_slice.ensures.value) ∙ c.standings.ensures),
)

pub returns-in_err-expects-clause-taken : goal.returns-in_err-expects-clause-taken
returns-in_err-expects-clause-taken g c = IfOk-from_err c.from_residual.result _ c.from_residual.ensures.0

pub returns-in-Lost-clause-goes : goal.returns-in-Lost-clause-goes
returns-in-Lost-clause-goes g c = goes-then c.look_group-word.ensures.goes c.in-Lost.ensures.goes

pub returns-in-Taken-clause-goes : goal.returns-in-Taken-clause-goes
returns-in-Taken-clause-goes g c =
    goes-then (goes-then c.look_group-word.ensures.goes c.in-Taken.ensures.goes)
    c.translations-translations.ensures.goes
