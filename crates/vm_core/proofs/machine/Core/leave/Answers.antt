use Rattle.std.proofs.Common.{◌∙◌, ap, refl}
use Rattle.vm_event.specs.Prelude.{State}
use Rattle.vm_event.specs.PageStep.{page_seen}
use Rattle.vm_core.specs.Prelude.{core_of}
use Rattle.vm_core.proofs.Over.{left-both, may-beside}
use Rattle.vm_core.proofs.machine.Core.leave.Goals as goal

pub act_over-requires : goal.act_over-requires
act_over-requires c =
    may-beside (core_of c.args.self.now) (core_of c.end_holds.new.self) c.args.a c.args.h c.args.act _
    c.end_holds.ensures (c.if-not-may_over.ensures.0 refl)

pub returns : goal.returns
returns c = (
  record { may = c.if-not-may_over.ensures.0 refl; owned = c.if-not-are_owned.ensures.0 refl },
  left-both (core_of c.args.self.now) (core_of c.end_holds.new.self) (core_of c.act_over.new.self) c.args.a c.args.h
      c.args.act c.end_holds.ensures c.act_over.ensures.next,
  c.act_over.ensures.sight ∙ ap (λ (x : State). page_seen (x.pages c.args.h) c.args.a c.args.act) c.end_holds.ensures,
)
