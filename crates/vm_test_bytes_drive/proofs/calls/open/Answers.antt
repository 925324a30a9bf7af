use Rattle.std.proofs.Common.{arith, rules}
use Rattle.vm_bytes_form.specs.Bytes.{bytes}
use Rattle.vm_bytes_form.proofs.BytesLaws.{bytes_is_layout}
use Rattle.vm_bytes_laws.specs.Plain.{plain_said}
use Rattle.vm_tree_callers.proofs.Beginnings.{begins-of}
use Rattle.vm_bytes_drive.proofs.from_vm_pool.FirstPass.{first-alone}
use Rattle.vm_test_bytes_drive.proofs.Fresh.{fresh-enough}
use Rattle.vm_test_bytes_drive.proofs.calls.open.Goals as goal

pub start-requires : goal.start-requires
start-requires c =
    let start = begins-of plain_said bytes bytes_is_layout 512 _ _ _ _ c.in_ok-image.ensures.tree c.next.ensures
    c.in_ok-blocks.ensures.blocks in
    search (rules, start)

pub returns-clause-whole : goal.returns-clause-whole
returns-clause-whole c = (first-alone _ _ _ _ _ _ _ _ c.in_ok-start.ensures.view).0

pub returns-clause-fresh : goal.returns-clause-fresh
returns-clause-fresh c = fresh-enough _ _ _ _ _ _ 2 _ _ c.in_ok-start.ensures.view (omega arith)
