use Rattle.vm_guard.proofs.Prelude.{BeginsReading, last_of, slice_index, subst, sym, true≢false, view, ◌∙◌, ◌≡◌}
use Rattle.vm_guard.proofs.Validating.{known-at, quiet-alone, word-valid}
use Rattle.vm_guard.proofs.single.read_word.Goals as goal

pub returns-in-Ok-validate_silently-clause-word : goal.returns-in-Ok-validate_silently-clause-word
returns-in-Ok-validate_silently-clause-word g c = λ tells.
    subst (λ n. c.word-word.result ≡ slice_index (last_of (view c.validate_silently.new.pass) n).words c.args.i) c.in-Ok.ensures.ok.0
    (word-valid g.U.Owner.tied _ _ _ _ _ _ _ _ c.word-word.ensures.loads c.in-Ok-validate_silently.ensures.ok
    (c.word-word.ensures.goes.ready.table.tells_is ∙ tells))

pub returns-in-Ok-validate_silently-clause-alone : goal.returns-in-Ok-validate_silently-clause-alone
returns-in-Ok-validate_silently-clause-alone g c =
    quiet-alone _ _ _ _ _ _ _ _ c.in-Ok.ensures.ok.1.quiet c.word-word.ensures.loads.quiet c.in-Ok-validate_silently.ensures.ok.alone

pub returns-in-Err-clause-alone : goal.returns-in-Err-clause-alone
returns-in-Err-clause-alone g c =
    quiet-alone _ _ _ _ _ _ _ _ c.in-Ok.ensures.ok.1.quiet c.word-word.ensures.loads.quiet c.in-Err.ensures.err.quiet.alone

pub returns-in-Err-clause-sure : goal.returns-in-Err-clause-sure
returns-in-Err-clause-sure g c a open_word =
    let begins = subst (λ n. BeginsReading n c.in-Ok.guard.word c.in-Ok.guard.frame (view c.args.pass.now)
    (view c.start.new.pass)) (sym c.in-Ok.ensures.ok.0) c.in-Ok.ensures.ok.1 in
    let k = known-at _ _ _ _ _ _ _ begins c.word-word.ensures.loads a in
    absurd (true≢false (sym (c.in-Err.ensures.sure k.0 k.1)))
