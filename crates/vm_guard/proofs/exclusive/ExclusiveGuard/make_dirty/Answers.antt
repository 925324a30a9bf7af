use Rattle.vm_guard.proofs.GuardSteps.{dirties, was-dirty}
use Rattle.vm_guard.proofs.exclusive.ExclusiveGuard.make_dirty.Goals as goal

pub returns-then-not-self-clause-dirtied : goal.returns-then-not-self-clause-dirtied
returns-then-not-self-clause-dirtied g c = dirties _ _ _ _ _ _ c.requires.holds c.if-not-self.true c.set_dirty.ensures.told

pub returns-else-not-self-clause-dirtied : goal.returns-else-not-self-clause-dirtied
returns-else-not-self-clause-dirtied g c = was-dirty _ _ _ _ _ c.requires.holds c.if-not-self.false
