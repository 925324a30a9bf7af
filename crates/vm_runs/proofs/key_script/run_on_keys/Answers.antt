use Rattle.std.specs.declared.alloc.Global.{Global}
use Rattle.std.proofs.Common.{◌∙◌, ◌≡◌, List, Vec, false, subst, sym, true}
use Rattle.vm_bytes_laws.specs.declared.call.KeyCall.{KeyCall}
use Rattle.vm_reading.specs.from_vm_drive.Drives.{items_of}
use Rattle.vm_reading.specs.from_vm_endings.{Deliveries.content_of, KeyRuns.IsKeyOutcome}
use Rattle.vm_reading.specs.from_vm_endings.{Limits.holds_call, Outside.with_shown, Outside.with_unread}
use Rattle.vm_runs.proofs.Running.{key-calls-stop, key-run-does, keys-too-deep}
use Rattle.vm_runs.proofs.key_script.run_on_keys.Goals as goal

pub returns-then-not-holds_call-clause-gives : goal.returns-then-not-holds_call-clause-gives
returns-then-not-holds_call-clause-gives g c = λ outside left.
    let deep : holds_call c.args.tree.rows.height c.args.run.now.frames ≡ false =
    sym c.holds_call.ensures ∙ c.if-not-holds_call.true in
    keys-too-deep c.args.run.now c.args.workers c.args.tree c.requires.limits
    (with_shown outside _) c.requires.image deep (with_unread left _)

pub returns-in-Err-clause-gives : goal.returns-in-Err-clause-gives
returns-in-Err-clause-gives g c = λ outside left.
    let holds : holds_call c.args.tree.rows.height c.args.run.now.frames ≡ true =
    sym c.holds_call.ensures ∙ c.if-not-holds_call.false in
    key-calls-stop c.args.run.now c.args.workers c.args.tree c.requires.limits (with_shown outside _)
    c.requires.image c.in-Err.undone (λ (v : Vec (Vec KeyCall Global) Global). items_of v.items) holds
    (with_unread left _) (c.in-Err.ensures.reads outside left)

pub returns-in-Ok-key_outcome_of-clause-gives : goal.returns-in-Ok-key_outcome_of-clause-gives
returns-in-Ok-key_outcome_of-clause-gives g c = λ outside left.
    let holds : holds_call c.args.tree.rows.height c.args.run.now.frames ≡ true =
    sym c.holds_call.ensures ∙ c.if-not-holds_call.false in
    key-run-does c.args.run.now c.args.workers c.args.tree c.requires.limits (with_shown outside _)
    c.requires.image (items_of c.in-Ok.lists.items) (content_of c.in-Ok-key_outcome_of.outcome.delivery)
    c.in-Ok-key_outcome_of.outcome.ended holds
    (rw c.requires.limits.0 at (c.in-Ok.ensures.reads outside left))
    (subst (λ (v : List (Vec KeyCall Global)). IsKeyOutcome c.args.run.now c.args.tree.image (items_of v)
    (content_of c.in-Ok-key_outcome_of.outcome.delivery) c.in-Ok-key_outcome_of.outcome.ended) c.as_slice.ensures.value
    c.in-Ok-key_outcome_of.ensures)
