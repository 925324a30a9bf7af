use Rattle.std.proofs.Common.{◌<◌, arith, length, subst, sym}
use Rattle.vm_core.specs.Prelude.{CoreData}
use Rattle.vm_core.proofs.machine.Core.put_owner.Goals as goal
use Rattle.vm_core.proofs.Owned.{core-owner}

pub returns : goal.returns
returns c =
    let r = subst (λ (x : CoreData). c.args.f < x.shape.frames) (sym c.self.view_is) c.requires in
    let lt : c.args.f < length c.self.inside.owners.items = omega (arith, c.self.invariant.owners, r) in
    rw (← c.self.view_is) (core-owner _ c.args.f c.args.w lt)
