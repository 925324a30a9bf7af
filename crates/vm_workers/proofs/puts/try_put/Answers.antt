use Rattle.std.proofs.Common.{◌∙◌, ◌≡◌, ap, None, rules, subst, sym, ℕ}
use Rattle.vm_step.specs.Prelude.{IsClaimed, view}
use Rattle.vm_exmap.proofs.Handing.{held-on}
use Rattle.vm_guard.specs.{declared.exclusive.ExclusiveGuard.ExclusiveGuard, Guards.IsReleased, Guards.IsSet}
use Rattle.vm_guard.proofs.InUse.{set-claims}
use Rattle.vm_workers.proofs.puts.try_put.Goals as goal
use Rattle.vm_workers.proofs.Putting.{holds-both, holds-read, holds-set, put-held, put-nothing}

pub returns-then-read-eq0-clause-may : goal.returns-then-read-eq0-clause-may
returns-then-read-eq0-clause-may g c =
    let taken = c.in-Ok.ensures.taken in
    let reads = holds-read _ _ _ _ c.read.ensures.quiet.1 in
    let released = subst (λ (k : ℕ). IsReleased k c.in-Ok.guard.version None (view c.read.new.pass)
    (view c.release.new.pass)) taken.0 c.release.ensures.released in
    record {
      ready = c.release.ensures.goes.ready;
      nothing = put-nothing _ _ _ _ _ _ _ _ _ _ _ taken.1 reads released c.requires.may.nothing;
      held = put-held _ _ _ _ _ _ _ _ _ _ _ taken.1 reads released _ c.requires.may.held;
    }

-- the page is in use: a word of it is not 0
pub release-requires-in-Ok-clause-claimed : goal.release-requires-in-Ok-clause-claimed
release-requires-in-Ok-clause-claimed g c tells =
    let told = c.take.ensures.goes.ready.table.tells_is ∙ sym c.set.ensures.goes.ready.table.tells_is ∙ tells in
    let taken = c.in-Ok.ensures.taken in
    let pid : c.set.new.self.pid ≡ c.in-Ok.guard.pid = ap (λ (y : ExclusiveGuard). y.pid) c.set.ensures.guard in
    subst (IsClaimed (view c.set.new.pass)) (sym pid)
    (set-claims taken.0 taken.1 c.read.ensures.quiet.1 _
    (λ none. c.if-read-eq0.false (c.read.ensures.value told ∙ none)) _ _ _ _ _ c.set.ensures.set)

pub bring-requires : goal.bring-requires
bring-requires g c =
    let steady = c.in-Err.ensures.denied.quiet.steady in (
      search rules,
      (
        c.take.ensures.goes.ready,
        (
          steady.out ∙ c.requires.may.nothing.out,
          (held-on _ _ _ c.requires.may.held steady.start steady.frames.0, c.requires.page.0),
        ),
      ),
    )

pub returns-else-read-eq0-clause-may : goal.returns-else-read-eq0-clause-may
returns-else-read-eq0-clause-may g c =
    let guard = c.in-Ok.guard in
    let taken = c.in-Ok.ensures.taken in
    let set = subst (λ (k : ℕ). IsSet k guard.frame guard.dirty c.args.i c.args.w (view c.read.new.pass)
    (view c.set.new.pass)) taken.0 c.set.ensures.set in
    let amid = holds-both _ _ _ (holds-read _ _ _ _ c.read.ensures.quiet.1) (holds-set _ _ _ _ _ _ _ set) in
    let released =
    subst (λ (k : ℕ). IsReleased k c.set.new.self.version None (view c.set.new.pass) (view c.release-in-Ok.new.pass))
    (ap (λ (y : ExclusiveGuard). y.pid) c.set.ensures.guard ∙ taken.0) c.release-in-Ok.ensures.released in
    record {
      ready = c.release-in-Ok.ensures.goes.ready;
      nothing = put-nothing _ _ _ _ _ _ _ _ _ _ _ taken.1 amid released c.requires.may.nothing;
      held = put-held _ _ _ _ _ _ _ _ _ _ _ taken.1 amid released _ c.requires.may.held;
    }
