use Rattle.std.specs.declared.alloc.Global.{Global}
use Rattle.std.proofs.Common.{◌∙◌, ◌≡◌, Vec, false, sym, true}
use Rattle.vm_map.specs.declared.call.Call.{Call}
use Rattle.vm_reading.specs.from_vm_drive.Drives.{items_of}
use Rattle.vm_reading.specs.from_vm_endings.{Limits.holds_call, Outside.with_shown, Outside.with_unread}
use Rattle.vm_runs.proofs.Running.{calls-stop, run-does, words-too-deep}
use Rattle.vm_runs.proofs.script.run_on.Goals as goal

pub returns-then-not-holds_call-clause-gives : goal.returns-then-not-holds_call-clause-gives
returns-then-not-holds_call-clause-gives g c = λ outside left.
    let deep : holds_call c.args.stored.rows.height c.args.run.now.frames ≡ false =
    sym c.holds_call.ensures ∙ c.if-not-holds_call.true in
    words-too-deep g.row.N c.args.run.now c.args.workers c.args.stored c.requires.limits
    (with_shown outside _) c.requires.image deep (with_unread left _)

pub returns-in-Err-clause-gives : goal.returns-in-Err-clause-gives
returns-in-Err-clause-gives g c = λ outside left.
    let holds : holds_call c.args.stored.rows.height c.args.run.now.frames ≡ true =
    sym c.holds_call.ensures ∙ c.if-not-holds_call.false in
    calls-stop g.row.N c.args.run.now c.args.workers c.args.stored c.requires.limits (with_shown outside _)
    c.requires.image c.in-Err.undone (λ (v : Vec (Vec Call Global) Global). items_of v.items) holds (with_unread left _)
    (c.in-Err.ensures.reads outside left)

pub returns-in-Ok-outcome_of-clause-gives : goal.returns-in-Ok-outcome_of-clause-gives
returns-in-Ok-outcome_of-clause-gives g c = λ outside left.
    let holds : holds_call c.args.stored.rows.height c.args.run.now.frames ≡ true =
    sym c.holds_call.ensures ∙ c.if-not-holds_call.false in
    run-does g.row.N c.args.run.now c.args.workers c.args.stored c.requires.limits (with_shown outside _)
    c.requires.image (items_of c.in-Ok.lists.items) _ c.in-Ok-outcome_of.outcome.ended holds
    (rw c.requires.limits.0 at (c.in-Ok.ensures.reads outside left))
    (rw c.as_slice.ensures.value at c.in-Ok-outcome_of.ensures)
