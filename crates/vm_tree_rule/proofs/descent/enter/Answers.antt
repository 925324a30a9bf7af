use Rattle.std.proofs.Common.{◌∙◌, ◌≡◌, arith, Err, IfErr, IfOk, inl, IsOk, Result, subst, sym, ℕ}
use Rattle.vm_step.specs.Prelude.{NoneExpected, NoWord, View, view}
use Rattle.vm_kind.specs.from_vm_guard.{declared_deny_Deny.Deny, declared_opt_OptGuard.OptGuard, Denied.AgainOrNeed}
use Rattle.vm_kind.specs.from_vm_guard.{Denied.IsDenied, Guards.BeginsReading}
use Rattle.vm_kind.proofs.from_vm_guard.PageLoads.{words-then}
use Rattle.vm_tree_rule.specs.{Resident.IsReadNow, Standing.HasSteppedDown, Standing.StaysOpen}
use Rattle.vm_tree_rule.proofs.descent.enter.Goals as goal
use Rattle.vm_tree_rule.proofs.Downward.{awaits-named}
use Rattle.vm_tree_rule.proofs.Entering.{ended, lost, stepped}
use Rattle.vm_tree_rule.proofs.Onward.{others-stay, stays}
use Rattle.vm_tree_rule.proofs.Readings.{leaves-self, reads-self, valid-reads}
use Rattle.vm_tree_rule.proofs.Surely.{free-below, known-at, known-begun, known-beside, known-same, locks-same}
use Rattle.vm_tree_rule.proofs.Surely.{looked, looked-known, looked-reading, named-below}
use Rattle.vm_tree_rule.proofs.Whole.{tree-size}

pub returns-in-Err-clause-err : goal.returns-in-Err-clause-err
returns-in-Err-clause-err g c = lost _ _ _ c.args.named c.in-Err.saw (view c.args.pass.now) (view c.args.pass.now) _
    (reads-self _) (leaves-self _ _) c.in-Err.ensures.err

pub validate_silently-requires-2-clause-reading : goal.validate_silently-requires-2-clause-reading
validate_silently-requires-2-clause-reading g c =
    inl (looked-reading _ _ _ (view c.args.pass.now) (view c.start-started.new.pass)
    (looked c.args.named c.args.parent.now.pid c.start-started.result (view c.args.pass.now)
    (view c.start-started.new.pass) c.if-named-parent.false c.start-started.ensures.ok
    c.start-started.ensures.err) c.requires.reading)

pub returns-in-Err-validate_silently-clause-err : goal.returns-in-Err-validate_silently-clause-err
returns-in-Err-validate_silently-clause-err g c =
    let l = looked c.args.named c.args.parent.now.pid c.start-started.result (view c.args.pass.now)
    (view c.start-started.new.pass) c.if-named-parent.false c.start-started.ensures.ok
    c.start-started.ensures.err in
    lost _ _ _ c.args.named c.in-Err-validate_silently.saw (view c.args.pass.now) (view c.start-started.new.pass) _
    l.reads l.leaves c.in-Err-validate_silently.ensures.err

pub returns-in-Err-validate_silently-clause-sure : goal.returns-in-Err-validate_silently-clause-sure
returns-in-Err-validate_silently-clause-sure g c shares tells k =
    let n = looked-known c.args.named c.args.parent.now.pid c.args.parent.now.word c.start-started.result
    (view c.args.pass.now) (view c.start-started.new.pass) c.if-named-parent.false c.start-started.ensures.ok
    c.start-started.ensures.err k in
    c.in-Err-validate_silently.ensures.sure n.resident.alone (known-at _ _ _ n)

pub returns-in-Ok-started-clause-ok : goal.returns-in-Ok-started-clause-ok
returns-in-Ok-started-clause-ok g c =
    let begun = subst (λ r.
    IfOk r (λ guard. (guard.pid ≡ c.args.named) × BeginsReading c.args.named guard.word guard.frame
    (view c.args.pass.now) (view c.start-started.new.pass))) c.in-Ok-started.is c.start-started.ensures.ok in
    let same = begun.0 in (
      same,
      subst (λ n. HasSteppedDown g.K.Kind.layout c.args.parent.now.pid c.args.parent.now.word c.args.parent.now.frame
          n c.in-Ok-started.guard.word c.in-Ok-started.guard.frame (view c.args.pass.now)
          (view c.validate_silently-2.new.pass)) (sym same)
          (stepped _ _ _ c.args.named _ _ _ _ _ c.if-named-parent.false c.requires.reading begun.1 c.in-Ok-validate_silently.ensures.ok),
    )

pub returns-in-Ok-started-clause-parent : goal.returns-in-Ok-started-clause-parent
returns-in-Ok-started-clause-parent g c =
    let begun = subst (λ r.
    IfOk r (λ guard. (guard.pid ≡ c.args.named) × BeginsReading c.args.named guard.word guard.frame
    (view c.args.pass.now) (view c.start-started.new.pass))) c.in-Ok-started.is c.start-started.ensures.ok in
    subst (λ n. StaysOpen c.args.parent.now.pid c.args.parent.now.word c.args.parent.now.frame n
    (view c.args.pass.now) (view c.validate_silently-2.new.pass)) (sym begun.0)
    (stays _ _ _ c.args.named _ _ _ _ _ c.if-named-parent.false begun.1 c.in-Ok-validate_silently.ensures.ok)

pub returns-in-Ok-started-clause-awaits : goal.returns-in-Ok-started-clause-awaits
returns-in-Ok-started-clause-awaits g c level low high names =
    let s = returns-in-Ok-started-clause-ok g c in awaits-named _ _ _ c.args.named level low high _ _ _ _ _ names s.0
    s.1 (tree-size _ _ _ c.validate_silently-2.ensures.goes.ready.table.is_shape.size c.args.words.now.sized.0
    c.args.words.now.size.takes)

pub returns-in-Ok-started-clause-others : goal.returns-in-Ok-started-clause-others
returns-in-Ok-started-clause-others g c q ne =
    let begun = subst (λ r.
    IfOk r (λ guard. (guard.pid ≡ c.args.named) × BeginsReading c.args.named guard.word guard.frame
    (view c.args.pass.now) (view c.start-started.new.pass))) c.in-Ok-started.is c.start-started.ensures.ok in
    others-stay q c.args.named _ _ _ _ _ _ _ _ (λ e. ne (e ∙ sym begun.0)) begun.1 c.in-Ok-validate_silently.ensures.ok

pub returns-in-Ok-started-clause-known : goal.returns-in-Ok-started-clause-known
returns-in-Ok-started-clause-known g c shares tells k =
    let begun = subst (λ r.
    IfOk r (λ guard. (guard.pid ≡ c.args.named) × BeginsReading c.args.named guard.word guard.frame
    (view c.args.pass.now) (view c.start-started.new.pass))) c.in-Ok-started.is c.start-started.ensures.ok in
    let l = looked c.args.named c.args.parent.now.pid c.start-started.result (view c.args.pass.now)
    (view c.start-started.new.pass) c.if-named-parent.false c.start-started.ensures.ok
    c.start-started.ensures.err in
    let beside = looked-known c.args.named c.args.parent.now.pid c.args.parent.now.word c.start-started.result
    (view c.args.pass.now) (view c.start-started.new.pass) c.if-named-parent.false c.start-started.ensures.ok
    c.start-started.ensures.err k in
    let valid = c.in-Ok-validate_silently.ensures.ok in
    let reads = (valid-reads _ _ _ _ _ _ valid).0 in
    let below = named-below g.K.Kind.plain g.K.Kind.layout g.K.Kind.is_layout _ _ _ c.args.named c.requires.names.0
    c.requires.names.1 c.requires.names.2 (view c.args.pass.now) (view c.start-started.new.pass)
    (view c.validate_silently-2.new.pass) l.reads l.same (l.next k.resident.alone) valid
    (tree-size _ _ _ c.validate_silently-2.ensures.goes.ready.table.is_shape.size c.args.words.now.sized.0
    c.args.words.now.size.takes) (c.in-Ok-validate_silently.ensures.kept tells) c.requires.names.3
    (c.requires.ready.table.tells_is ∙ tells) k.resident.alone in (
      subst (λ p. IsReadNow shares p c.in-Ok-started.guard.word (view c.validate_silently-2.new.pass)) (sym begun.0)
          (known-same _ _ _ _ reads valid.table
          (known-begun c.args.named _ _ (view c.args.pass.now) (view c.start-started.new.pass) begun.1 below
          k.resident)),
      known-same _ _ _ _ reads valid.table beside,
    )

pub returns-in-Ok-started-clause-locks : goal.returns-in-Ok-started-clause-locks
returns-in-Ok-started-clause-locks g c =
    let begun = subst (λ r.
    IfOk r (λ guard. (guard.pid ≡ c.args.named) × BeginsReading c.args.named guard.word guard.frame
    (view c.args.pass.now) (view c.start-started.new.pass))) c.in-Ok-started.is c.start-started.ensures.ok in
    let valid = c.in-Ok-validate_silently.ensures.ok in
    locks-same (view c.start-started.new.pass) (view c.validate_silently-2.new.pass) (valid-reads _ _ _ _ _ _ valid).0
    valid.table (record { current = begun.1.current; unheld = c.start-started.ensures.unheld })

denied-is : {S : Type 0} (r : Result OptGuard Deny) (named : ℕ) (d : Deny) (v x : View S) → r ≡ Err d
    → IfErr r (λ e. IsDenied AgainOrNeed NoWord NoneExpected named e v x) → IsDenied AgainOrNeed NoWord NoneExpected
    named d v x
denied-is r named d v x is err =
    subst (λ (y : Result OptGuard Deny). IfErr y (λ e. IsDenied AgainOrNeed NoWord NoneExpected named e v x)) is err

pub of_denied-requires : goal.of_denied-requires
of_denied-requires g c =
    (denied-is c.start-started.result c.args.named c.in-Err-started.deny (view c.args.pass.now)
    (view c.start-started.new.pass) c.in-Err-started.is c.start-started.ensures.err).kind

pub returns-in-Err-started-clause-err : goal.returns-in-Err-started-clause-err
returns-in-Err-started-clause-err g c =
    let below = c.if-named-pages.false in
    let same = c.args.words.now.shape.0 in
    let pages = c.requires.ready.table.is_shape.pages in
    ended _ _ _ c.args.named c.in-Err-started.deny c.of_denied.result (view c.args.pass.now)
    (view c.start-started.new.pass) (view c.validate_silently-2.new.pass) c.of_denied.ensures
    (omega (arith, below, same, pages)) c.if-named-parent.false
    (denied-is c.start-started.result c.args.named c.in-Err-started.deny (view c.args.pass.now)
    (view c.start-started.new.pass) c.in-Err-started.is c.start-started.ensures.err)
    c.in-Ok-validate_silently.ensures.ok

pub returns-in-Err-started-clause-sure : goal.returns-in-Err-started-clause-sure
returns-in-Err-started-clause-sure g c shares tells k =
    let l = looked c.args.named c.args.parent.now.pid c.start-started.result (view c.args.pass.now)
    (view c.start-started.new.pass) c.if-named-parent.false c.start-started.ensures.ok
    c.start-started.ensures.err in
    let a = k.resident.alone in
    let high = c.if-named-pages.false in
    let same = c.args.words.now.shape.0 in
    let pages = c.requires.ready.table.is_shape.pages in
    let below = named-below g.K.Kind.plain g.K.Kind.layout g.K.Kind.is_layout _ _ _ c.args.named c.requires.names.0
    c.requires.names.1 c.requires.names.2 (view c.args.pass.now) (view c.start-started.new.pass)
    (view c.validate_silently-2.new.pass) l.reads l.same (l.next a) c.in-Ok-validate_silently.ensures.ok
    (tree-size _ _ _ c.validate_silently-2.ensures.goes.ready.table.is_shape.size c.args.words.now.sized.0
    c.args.words.now.size.takes) (c.in-Ok-validate_silently.ensures.kept tells) c.requires.names.3
    (c.requires.ready.table.tells_is ∙ tells) a in
    subst (λ r. IsOk r) c.in-Err-started.is
    (c.start-started.ensures.sure a
    (free-below c.args.named (view c.args.pass.now) k.resident below (omega (arith, high, same, pages))))

pub returns-in-Ok-started-clause-words : goal.returns-in-Ok-started-clause-words
returns-in-Ok-started-clause-words g c = words-then _ _ _ _ _ c.start-started.ensures.words c.validate_silently-2.ensures.words

pub returns-in-Err-started-clause-words : goal.returns-in-Err-started-clause-words
returns-in-Err-started-clause-words g c = words-then _ _ _ _ _ c.start-started.ensures.words c.validate_silently-2.ensures.words

pub returns-in-Err-validate_silently-clause-words : goal.returns-in-Err-validate_silently-clause-words
returns-in-Err-validate_silently-clause-words g c = words-then _ _ _ _ _ c.start-started.ensures.words c.validate_silently-2.ensures.words

pub returns-in-Ok-started-clause-beside : goal.returns-in-Ok-started-clause-beside
returns-in-Ok-started-clause-beside g c shares tells k q x ne read =
    let begun = subst (λ r.
    IfOk r (λ guard. (guard.pid ≡ c.args.named) × BeginsReading c.args.named guard.word guard.frame
    (view c.args.pass.now) (view c.start-started.new.pass))) c.in-Ok-started.is c.start-started.ensures.ok in
    let valid = c.in-Ok-validate_silently.ensures.ok in
    known-same _ _ _ _ (valid-reads _ _ _ _ _ _ valid).0 valid.table
    (known-beside q x c.args.named _ _ _ _ (λ e. ne (e ∙ sym begun.0)) begun.1 read)
