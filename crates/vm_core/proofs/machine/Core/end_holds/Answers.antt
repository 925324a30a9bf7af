use Rattle.std.proofs.Common.{◌∙◌, ◌≡◌, ap, arith, sym}
use Rattle.vm_event.specs.Prelude.{State}
use Rattle.vm_event.specs.Step.{keeps_number}
use Rattle.vm_core.specs.Prelude.{core_of}
use Rattle.vm_core.proofs.Over.{ended-all, ended-next, ended-none, ended-skip, keeps-same}
use Rattle.vm_core.proofs.machine.Core.end_holds.Goals.{then-head-h+then-not-keeps_number, else-head-h}
use Rattle.vm_core.proofs.machine.Core.end_holds.Goals.{else-head-h-via-then-head-h+else-not-keeps_number}
use Rattle.vm_core.proofs.machine.Core.end_holds.Goals.{else-head-h-via-else-head-h}
use Rattle.vm_core.proofs.machine.Core.end_holds.Goals as goal

pub loop-q-init : goal.loop-q-init
loop-q-init c = ended-none (core_of c.args.self.now) c.args.a c.args.h (λ q e. (c.group_end-q-end.ensures.all q e).0)

pub loop-q-preserved : goal.loop-q-preserved
loop-q-preserved c =
    let old : State = core_of c.args.self.now in
    let here : c.head.result ≡ old.head c.loop-q.q =
    c.head.ensures ∙ ap (λ (x : State). x.head c.loop-q.q) c.loop-q.invariant in
    let kept : keeps_number old c.loop-q.q ≡ keeps_number (core_of c.loop-q.self) c.loop-q.q =
    sym (keeps-same old (core_of c.loop-q.self) c.args.a c.args.h c.loop-q.q c.loop-q.invariant) in
    elim c.if-head-h.branch [
      | then-head-h+then-not-keeps_number w ↦ rw w.self-is (ended-next old (core_of c.loop-q.self)
          (core_of w.end_hold.new.self) c.args.a c.args.h c.loop-q.q c.loop-q.invariant (sym here ∙ w.if-head-h.true)
          (kept ∙ sym w.if-not-keeps_number.ensures) w.end_hold.ensures)
      | else-head-h w ↦ rw w.self-is (ended-skip old (core_of c.loop-q.self) c.args.a c.args.h c.loop-q.q
          c.loop-q.invariant (λ under. elim w.else-head-h.branch [
            | else-head-h-via-then-head-h+else-not-keeps_number v ↦ kept ∙ sym v.if-not-keeps_number.ensures
            | else-head-h-via-else-head-h v ↦ absurd (v.if-head-h.false (here ∙ under))
          ]))
    ]

pub returns : goal.returns
returns c = ended-all (core_of c.args.self.now) (core_of c.loop-q.self) c.args.a c.args.h c.loop-q.q c.loop-q.invariant
    (λ q e. omega (arith, (c.group_end-q-end.ensures.all q e).1, c.loop-q-test.false))
