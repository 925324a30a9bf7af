use Rattle.std.proofs.Common.{◌∙◌, ◌≡◌, ap, inl, subst, sym}
use Rattle.vm_event.specs.Prelude.{Version}
use Rattle.vm_page.specs.Pages.{all_zero}
use Rattle.vm_rule.specs.Prelude.{last_of}
use Rattle.vm_step.specs.Prelude.{IsClaimed, view}
use Rattle.vm_guard.specs.declared.exclusive.ExclusiveGuard.{ExclusiveGuard}
use Rattle.vm_guard.proofs.InUse.{claims-used, set-used}
use Rattle.vm_test_locks.proofs.guard.read_again.Goals as goal

-- the page is in use: a word of it is not 0
pub release-requires-clause-claimed : goal.release-requires-clause-claimed
release-requires-clause-claimed g c tells =
    let told = c.take.ensures.goes.ready.table.tells_is ∙ sym c.read-drafted.ensures.goes.ready.table.tells_is ∙ tells in
    let taken = c.in-Ok.ensures.taken in
    let pid : c.set.new.self.pid ≡ c.in-Ok.held.pid = ap (λ (y : ExclusiveGuard). y.pid) c.set.ensures.guard in
    let used = set-used taken.0 taken.1 c.read.ensures.quiet.1 _
    (λ none. c.if-read-eq0.false (c.read.ensures.value told ∙ none)) _ _ _ _ _ c.set.ensures.set in
    let stays : last_of (view c.read-drafted.new.pass) c.in-Ok.held.pid ≡ last_of (view c.set.new.pass)
    c.in-Ok.held.pid = (c.read-drafted.ensures.quiet.1.knows c.in-Ok.held.pid
    (inl c.set.ensures.holds.owns)).last in
    subst (IsClaimed (view c.read-drafted.new.pass)) (sym pid)
    (claims-used (view c.read-drafted.new.pass) c.in-Ok.held.pid
    (ap (λ (y : Version). all_zero y.words) stays ∙ used))
