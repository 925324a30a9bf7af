use Rattle.std.proofs.Common.{◌∙◌, ◌≡◌, ap, subst, sym}
use Rattle.vm_step.specs.Prelude.{IsClaimed, view}
use Rattle.vm_guard.specs.declared.exclusive.ExclusiveGuard.{ExclusiveGuard}
use Rattle.vm_guard.proofs.InUse.{set-claims}
use Rattle.vm_test_evict.proofs.evict.set_last.Goals as goal

-- the page is in use: a word of it is not 0
pub release-requires-clause-claimed : goal.release-requires-clause-claimed
release-requires-clause-claimed g c tells =
    let told = c.take.ensures.goes.ready.table.tells_is ∙ sym c.set.ensures.goes.ready.table.tells_is ∙ tells in
    let taken = c.in-Ok.ensures.taken in
    let pid : c.set.new.self.pid ≡ c.in-Ok.held.pid = ap (λ (y : ExclusiveGuard). y.pid) c.set.ensures.guard in
    subst (IsClaimed (view c.set.new.pass)) (sym pid)
    (set-claims taken.0 taken.1 c.read.ensures.quiet.1 _
    (λ none. c.if-read-eq0.false (c.read.ensures.value told ∙ none)) _ _ _ _ _ c.set.ensures.set)
