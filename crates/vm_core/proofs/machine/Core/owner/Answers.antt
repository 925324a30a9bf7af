use Rattle.std.proofs.Common.{◌<◌, arith, length, subst, sym}
use Rattle.vm_core.specs.Prelude.{CoreData}
use Rattle.vm_event.proofs.At.{at-value}
use Rattle.vm_core.proofs.machine.Core.owner.Goals as goal

pub returns : goal.returns
returns c =
    let r = subst (λ (x : CoreData). c.args.f < x.shape.frames) (sym c.self.view_is) c.requires in
    let lt : c.args.f < length c.self.inside.owners.items = omega (arith, c.self.invariant.owners, r) in
    rw (← c.self.view_is) (sym (at-value 0 c.self.inside.owners.items c.args.f _ lt c.index.ensures))
