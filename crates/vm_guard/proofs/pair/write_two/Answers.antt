-- The two guards are those of the pages given, and each release of them may be made.
use Rattle.vm_guard.proofs.Pairs.{apart-of, fresh-both, holding-beside, may-pair, taken-both, two-given, two-many, written-pair}
use Rattle.vm_guard.proofs.Prelude.{[], ap, arith, ExclusiveGuard, guards_of, HasFirst, length, length-append, refl}
use Rattle.vm_guard.proofs.Prelude.{subst, sym, view, ℕ, ◌∙◌, ◌∷◌}
use Rattle.vm_step.proofs.Going.{goes-then}
use Rattle.vm_guard.proofs.pair.write_two.Goals as goal

pub unreachable-requires : goal.unreachable-requires
unreachable-requires g c =
    let ans = two-given _ _ _ _ _ c.in-Pages.ensures.answer in
    absurd (omega (
      arith,
      two-many ans.0 (guards_of c.in-Pages.given) ans.1.guards ans.1.count,
      ap length (c.take_last.ensures.none c.in_default.is).0,
    ))

pub unreachable-requires-in_default-take_last : goal.unreachable-requires-in_default-take_last
unreachable-requires-in_default-take_last g c =
    let ans = two-given _ _ _ _ _ c.in-Pages.ensures.answer in
    let one = ap length c.in-Some.ensures.some ∙ length-append (guards_of c.take_last.new.self) (c.in-Some.second ∷ []) in
    absurd (omega (
      arith,
      two-many ans.0 (guards_of c.in-Pages.given) ans.1.guards ans.1.count,
      one,
      ap length (c.take_last-in-Pages.ensures.none c.in_default-take_last.is).0,
    ))

pub end-requires : goal.end-requires
end-requires g c =
    let ans = two-given _ _ _ _ _ c.in-Pages.ensures.answer in
    (taken-both _ _ _ _ _ c.in-Some.ensures.some c.in-Some-take_last.ensures.some
    (two-many ans.0 (guards_of c.in-Pages.given) ans.1.guards ans.1.count)).0

pub set-requires-in-Pages-clause-holds : goal.set-requires-in-Pages-clause-holds
set-requires-in-Pages-clause-holds g c =
    let ans = two-given _ _ _ _ _ c.in-Pages.ensures.answer in
    let f = fresh-both ans.0 _ c.in-Some.ensures.some c.in-Some-take_last.ensures.some ans.1 in
    holding-beside _ _ _ _ _ _ _ _ _ _ _ f.held.1.0
    (λ e. apart-of ans.0 c.in-Some-take_last.first c.in-Some.second f.guards f.apart (sym e)) c.set.ensures.set

pub release_group-requires-clause-may : goal.release_group-requires-clause-may
release_group-requires-clause-may g c =
    let ans = two-given _ _ _ _ _ c.in-Pages.ensures.answer in
    let f = fresh-both ans.0 _ c.in-Some.ensures.some c.in-Some-take_last.ensures.some ans.1 in
    rw (c.set.ensures.guard, c.set-in-Pages.ensures.guard)
    (may-pair ans.0 c.args.a c.args.b _ _ _ _ _ _ _ _ f c.set.ensures.set c.set-in-Pages.ensures.set _
    c.set.ensures.holds c.set-in-Pages.ensures.holds c.requires.home refl)

pub returns-in-Some-take_last-clause-written : goal.returns-in-Some-take_last-clause-written
returns-in-Some-take_last-clause-written g c t alone =
    let ans = two-given _ _ _ _ _ c.in-Pages.ensures.answer in
    let f = fresh-both ans.0 _ c.in-Some.ensures.some c.in-Some-take_last.ensures.some ans.1 in
    let r = rw (c.set.ensures.guard, c.set-in-Pages.ensures.guard) at c.release_group.ensures.released.0 in
    let h = written-pair ans.0 c.args.a c.args.b _ _ _ _ _ _ _ _ f c.set.ensures.set c.set-in-Pages.ensures.set
    (view c.release_group.new.pass) r (c.requires.ready.table.tells_is ∙ t) alone in (
      subst (λ (n : ℕ). HasFirst n c.args.a (view c.release_group.new.pass))
          (ap (λ (x : ExclusiveGuard). x.pid) (sym c.set.ensures.guard)) h.0,
      subst (λ (n : ℕ). HasFirst n c.args.b (view c.release_group.new.pass))
          (ap (λ (x : ExclusiveGuard). x.pid) (sym c.set-in-Pages.ensures.guard)) h.1,
    )

pub set-requires-clause-holds : goal.set-requires-clause-holds
set-requires-clause-holds g c =
    let ans = two-given _ _ _ _ _ c.in-Pages.ensures.answer in
    (fresh-both ans.0 _ c.in-Some.ensures.some c.in-Some-take_last.ensures.some ans.1).held.0

pub returns-in-Some-take_last-clause-goes : goal.returns-in-Some-take_last-clause-goes
returns-in-Some-take_last-clause-goes g c =
    goes-then (goes-then (goes-then c.in-Pages.ensures.goes c.set.ensures.goes) c.set-in-Pages.ensures.goes)
    c.release_group.ensures.goes
