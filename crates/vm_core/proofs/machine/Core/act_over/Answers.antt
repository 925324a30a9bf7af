use Rattle.std.proofs.Common.{◌∙◌, ◌≡◌, ap, arith, sym}
use Rattle.vm_event.specs.Prelude.{State}
use Rattle.vm_core.specs.Prelude.{core_of}
use Rattle.vm_core.proofs.Over.{acted-all, acted-first, acted-next, acted-skip, may-next}
use Rattle.vm_core.proofs.machine.Core.act_over.Goals.{then-head-h, else-head-h}
use Rattle.vm_core.proofs.machine.Core.act_over.Goals as goal

pub loop-q-init : goal.loop-q-init
loop-q-init c =
    acted-first (core_of c.args.self.now) (core_of c.act_at-seen.new.self) c.args.a c.args.h c.args.act c.requires.head
    (λ q e. (c.group_end-end.ensures.all q e).0) c.act_at-seen.ensures.next

pub act_at-requires : goal.act_at-requires
act_at-requires c =
    may-next (core_of c.args.self.now) (core_of c.loop-q.self) c.args.a c.args.h c.args.act c.loop-q.q c.requires
    c.loop-q.invariant
    (sym (ap (λ (x : State). x.head c.loop-q.q) c.loop-q.invariant) ∙ sym c.head.ensures ∙ c.if-head-h.true)
    (omega (arith, c.loop-q-test.true, c.group_end-end.ensures.inside))

pub loop-q-preserved : goal.loop-q-preserved
loop-q-preserved c =
    let old : State = core_of c.args.self.now in
    let here : c.head.result ≡ old.head c.loop-q.q =
    c.head.ensures ∙ ap (λ (x : State). x.head c.loop-q.q) c.loop-q.invariant in
    elim c.if-head-h.branch [
      | then-head-h w ↦ rw w.self-is (acted-next old (core_of c.loop-q.self) (core_of w.act_at.new.self) c.args.a
          c.args.h c.args.act c.loop-q.q c.loop-q.invariant (sym here ∙ w.if-head-h.true) w.act_at.ensures.next)
      | else-head-h w ↦ rw w.self-is (acted-skip old (core_of c.loop-q.self) c.args.a c.args.h c.args.act c.loop-q.q
          c.loop-q.invariant (λ under. w.if-head-h.false (here ∙ under)))
    ]

pub returns-clause-next : goal.returns-clause-next
returns-clause-next c =
    acted-all (core_of c.args.self.now) (core_of c.loop-q.self) c.args.a c.args.h c.args.act c.loop-q.q
    c.loop-q.invariant (λ q e. omega (arith, (c.group_end-end.ensures.all q e).1, c.loop-q-test.false))
