use Rattle.std.proofs.Common.{◌*◌, ◌<◌, arith, length, subst, sym}
use Rattle.vm_core.specs.Prelude.{CoreData}
use Rattle.vm_event.proofs.At.{at-value}
use Rattle.vm_core.proofs.machine.Core.spare.Goals as goal

pub returns : goal.returns
returns c =
    let r = subst (λ (x : CoreData). c.args.g * 64 < x.shape.pages) (sym c.self.view_is) c.requires in
    let lt : c.args.g < length c.self.inside.spares.items = omega (arith, c.self.invariant.spares, r) in
    rw (← c.self.view_is) (sym (at-value 0 c.self.inside.spares.items c.args.g _ lt c.index.ensures))
