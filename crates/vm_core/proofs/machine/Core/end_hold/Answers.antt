use Rattle.std.proofs.Common.{◌<◌, arith, length, subst, sym}
use Rattle.vm_core.specs.Prelude.{CoreData}
use Rattle.vm_core.proofs.machine.Core.end_hold.Goals as goal
use Rattle.vm_core.proofs.CoreFrames.{core-ended}

pub returns : goal.returns
returns c =
    let r = subst (λ (x : CoreData). c.args.a < x.shape.actors) (sym c.self.view_is) c.requires.actor in
    let la : c.args.a < length c.self.inside.numbers.items = omega (arith, c.self.invariant.numbers, r) in
    rw (← c.self.view_is) (core-ended _ c.args.a c.args.p _ _ la c.index_mut-row.ensures.value c.remove.ensures.words)
