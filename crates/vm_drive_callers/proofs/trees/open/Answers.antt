use Rattle.std.proofs.Common.{arith, refl, rules}
use Rattle.vm_tree_model.{specs.Fixed.fixed, proofs.FixedLaws.sized_layout}
use Rattle.vm_serve.specs.from_vm_drive.Prelude.{as_said}
use Rattle.vm_serve.proofs.from_vm_pool.FirstPass.{first-alone}
use Rattle.vm_serve.proofs.Headline.{begins, fresh-enough}
use Rattle.vm_drive_callers.proofs.trees.open.Goals as goal

pub start-requires : goal.start-requires
start-requires c = let start = begins as_said (fixed 64) (sized_layout 64 refl) _ _ _ _ c.requires.tree c.next.ensures c.in_ok-blocks.ensures.blocks in search (rules, start)

pub returns-clause-whole : goal.returns-clause-whole
returns-clause-whole c = (first-alone _ _ _ _ _ _ _ _ c.in_ok-start.ensures.view).0

pub returns-clause-fresh : goal.returns-clause-fresh
returns-clause-fresh c = fresh-enough _ _ _ _ _ _ 64 _ _ c.in_ok-start.ensures.view (omega arith)
