use Rattle.std.proofs.Common.{arith}
use Rattle.vm_pool.proofs.FirstPass.{first-alone}
use Rattle.vm_drive_callers.proofs.from_vm_serve.Headline.{fresh-enough}
use Rattle.vm_test_overlap.proofs.overlap.open_held.Goals as goal

pub returns-clause-whole : goal.returns-clause-whole
returns-clause-whole c = (first-alone _ _ _ _ _ _ _ _ c.in_ok-start.ensures.view).0

pub returns-clause-fresh : goal.returns-clause-fresh
returns-clause-fresh c = fresh-enough _ _ _ _ _ _ 2 _ _ c.in_ok-start.ensures.view (omega arith)
