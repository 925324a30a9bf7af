use Rattle.std.proofs.Common.{◌∙◌, ◌≡◌, ap, None, subst, sym, ℕ}
use Rattle.vm_step.specs.Prelude.{IsClaimed, view}
use Rattle.vm_guard.specs.declared.exclusive.ExclusiveGuard.{ExclusiveGuard}
use Rattle.vm_guard.specs.{Guards.IsReleased, Guards.IsSet, Quiet.IsQuiet}
use Rattle.vm_guard.proofs.InUse.{set-claims}
use Rattle.vm_test_saves.proofs.Alone.{still-nothing-held}
use Rattle.vm_test_saves.proofs.saves.put_alone.Goals as goal

-- the page is in use: a word of it is not 0
pub release-requires-clause-claimed : goal.release-requires-clause-claimed
release-requires-clause-claimed g c tells =
    let told = c.take.ensures.goes.ready.table.tells_is ∙ sym c.set.ensures.goes.ready.table.tells_is ∙ tells in
    let taken = c.in-Ok.ensures.taken in
    let pid : c.set.new.self.pid ≡ c.in-Ok.guard.pid = ap (λ (y : ExclusiveGuard). y.pid) c.set.ensures.guard in
    subst (IsClaimed (view c.set.new.pass)) (sym pid)
    (set-claims taken.0 taken.1 c.read.ensures.quiet.1 _
    (λ none. c.if-read-eq0.false (c.read.ensures.value told ∙ none)) _ _ _ _ _ c.set.ensures.set)

pub returns-clause-holds : goal.returns-clause-holds
returns-clause-holds g c =
    let guard = c.in-Ok.guard in
    let taken = c.in-Ok.ensures.taken in
    let reads = subst (λ (k : ℕ). IsQuiet k c.read.ensures.quiet.0 (view c.take.new.pass) (view c.read.new.pass))
    taken.0 c.read.ensures.quiet.1 in
    let set = subst (λ (k : ℕ). IsSet k guard.frame guard.dirty c.args.i c.args.w (view c.read.new.pass)
    (view c.set.new.pass)) taken.0 c.set.ensures.set in
    let released =
    subst (λ (k : ℕ). IsReleased k c.set.new.self.version None (view c.set.new.pass) (view c.release.new.pass))
    (ap (λ (y : ExclusiveGuard). y.pid) c.set.ensures.guard ∙ taken.0) c.release.ensures.released in
    still-nothing-held taken.1 reads set released c.requires.holds
