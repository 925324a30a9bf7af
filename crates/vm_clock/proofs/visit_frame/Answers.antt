use Rattle.vm_clock.proofs.Prelude.{arith}
use Rattle.vm_clock.proofs.Visiting.{by-none, by-page}
use Rattle.vm_clock.proofs.visit_frame.Goals as goal

pub returns-then-owner-eq0-clause-visited : goal.returns-then-owner-eq0-clause-visited
returns-then-owner-eq0-clause-visited g c = by-none _ _ _ _ c.oload-owner.ensures.told c.if-owner-eq0.true _ _

pub returns-clause-visited : goal.returns-clause-visited
returns-clause-visited g c =
    by-page _ _ _ _ c.oload-owner.ensures.told _ (omega (arith, c.if-owner-eq0.false)) _ _ _ _ _ c.visit.ensures.visited
