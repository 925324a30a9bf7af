use Rattle.std.proofs.Common.{arith}
use Rattle.vm_reading.specs.from_vm_endings.Deliveries.{content_of}
use Rattle.vm_reading.specs.from_vm_endings.declared_ends_Ends_TheVariants.{BytesTree, LargeTree, Tree}
use Rattle.vm_reading.specs.from_vm_endings.Outside.{nothing_left, nowhere, with_shown, with_unread}
use Rattle.vm_runs.proofs.Running.{image-stops, limits-stop, run-gives, run-stops}
use Rattle.vm_runs.proofs.EarlierCauses.{earlier-cause}
use Rattle.vm_runs.proofs.script.run_script.Goals as goal

pub returns-in-Err-clause-gives : goal.returns-in-Err-clause-gives
returns-in-Err-clause-gives g c = λ outside left. limits-stop c.args.run.now c.in-Err.quantity c.in-Err.ensures
    (with_shown outside _) (with_unread left _) c.args.ends.now

pub returns-in-Err-read_any_tree-clause-gives : goal.returns-in-Err-read_any_tree-clause-gives
returns-in-Err-read_any_tree-clause-gives g c = λ outside left. image-stops c.args.run.now c.in-Ok.workers
    c.in-Err-read_any_tree.undone c.in-Ok.ensures (with_shown outside _) (with_unread left _)
    (c.in-Err-read_any_tree.ensures.reads outside left) c.args.ends.now

pub returns-in-Err-run_on-clause-cause : goal.returns-in-Err-run_on-clause-cause
returns-in-Err-run_on-clause-cause g c =
    earlier-cause _ _ _ c.in-Err-run_on.undone c.in-Ok-Words-Words64.ensures.later c.in-Err-run_on.ensures.cause

pub returns-in-Err-run_on-2-clause-cause : goal.returns-in-Err-run_on-2-clause-cause
returns-in-Err-run_on-2-clause-cause g c =
    earlier-cause _ _ _ c.in-Err-run_on-2.undone c.in-Ok-Words-Words512.ensures.later c.in-Err-run_on-2.ensures.cause

pub run_on-requires-after_bounds : goal.run_on-requires-after_bounds
run_on-requires-after_bounds g c κs within = (
  omega arith,
  (
    omega arith,
    (
      c.in-Ok.ensures,
      rw c.in-Ok-Words-Words64.ensures.shown
          (rw c.in-Ok-Words-Words64.field-0-0-is at (rw c.in-Ok-Words-Words64.field-0-is at
          (c.in-Ok-Words-Words64.ensures.reads nowhere nothing_left))),
    ),
  ),
)

pub returns-in-Ok-run_on-clause-gives : goal.returns-in-Ok-run_on-clause-gives
returns-in-Ok-run_on-clause-gives g c = λ outside left.
    run-gives c.args.run.now (with_shown outside _) (with_unread left _)
    (content_of c.in-Ok-run_on.field-0.delivery) c.args.ends.now (Tree c.in-Ok-run_on.field-0.ended)
    (rw c.in-Ok-Words-Words64.ensures.shown at (c.in-Ok-run_on.ensures.gives outside left))

pub returns-in-Err-run_on-clause-gives : goal.returns-in-Err-run_on-clause-gives
returns-in-Err-run_on-clause-gives g c = λ outside left.
    run-stops c.args.run.now (with_shown outside _) (with_unread left _) c.in-Err-run_on.undone c.args.ends.now
    (rw c.in-Ok-Words-Words64.ensures.shown at (c.in-Err-run_on.ensures.gives outside left))

pub run_on-requires-in-Ok-Words-Words512-after_bounds : goal.run_on-requires-in-Ok-Words-Words512-after_bounds
run_on-requires-in-Ok-Words-Words512-after_bounds g c κs within = (
  omega arith,
  (
    omega arith,
    (
      c.in-Ok.ensures,
      rw c.in-Ok-Words-Words512.ensures.shown
          (rw c.in-Ok-Words-Words512.field-0-0-is at (rw c.in-Ok-Words-Words512.field-0-is at
          (c.in-Ok-Words-Words512.ensures.reads nowhere nothing_left))),
    ),
  ),
)

pub returns-in-Ok-run_on-2-clause-gives : goal.returns-in-Ok-run_on-2-clause-gives
returns-in-Ok-run_on-2-clause-gives g c = λ outside left.
    run-gives c.args.run.now (with_shown outside _) (with_unread left _)
    (content_of c.in-Ok-run_on-2.field-0.delivery) c.args.ends.now (LargeTree c.in-Ok-run_on-2.field-0.ended)
    (rw c.in-Ok-Words-Words512.ensures.shown at (c.in-Ok-run_on-2.ensures.gives outside left))

pub returns-in-Err-run_on-2-clause-gives : goal.returns-in-Err-run_on-2-clause-gives
returns-in-Err-run_on-2-clause-gives g c = λ outside left.
    run-stops c.args.run.now (with_shown outside _) (with_unread left _) c.in-Err-run_on-2.undone c.args.ends.now
    (rw c.in-Ok-Words-Words512.ensures.shown at (c.in-Err-run_on-2.ensures.gives outside left))

pub returns-in-Err-run_on_keys-clause-cause : goal.returns-in-Err-run_on_keys-clause-cause
returns-in-Err-run_on_keys-clause-cause g c =
    earlier-cause _ _ _ c.in-Err-run_on_keys.undone c.in-Ok-Keys.ensures.later c.in-Err-run_on_keys.ensures.cause

pub returns-in-Ok-run_on_keys-clause-gives : goal.returns-in-Ok-run_on_keys-clause-gives
returns-in-Ok-run_on_keys-clause-gives g c = λ outside left.
    run-gives c.args.run.now (with_shown outside _) (with_unread left _)
    (content_of c.in-Ok-run_on_keys.field-0.delivery) c.args.ends.now (BytesTree c.in-Ok-run_on_keys.field-0.ended)
    (rw c.in-Ok-Keys.ensures.shown at (c.in-Ok-run_on_keys.ensures.gives outside left))

pub returns-in-Err-run_on_keys-clause-gives : goal.returns-in-Err-run_on_keys-clause-gives
returns-in-Err-run_on_keys-clause-gives g c = λ outside left.
    run-stops c.args.run.now (with_shown outside _) (with_unread left _) c.in-Err-run_on_keys.undone c.args.ends.now
    (rw c.in-Ok-Keys.ensures.shown at (c.in-Err-run_on_keys.ensures.gives outside left))

pub run_on_keys-requires-clause-image : goal.run_on_keys-requires-clause-image
run_on_keys-requires-clause-image g c κs within =
    rw c.in-Ok-Keys.ensures.shown (rw c.in-Ok-Keys.field-0-is at (c.in-Ok-Keys.ensures.reads nowhere nothing_left))
