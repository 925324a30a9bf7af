use Rattle.std.proofs.Common.{◌+◌, ◌/◌, ◌<◌, ◌≡◌, arith, length, subst, sym}
use Rattle.vm_core.specs.Prelude.{core_of, CoreData}
use Rattle.vm_event.specs.Step.{MayTake}
use Rattle.vm_core.proofs.machine.Core.move_to_actor.Goals as goal
use Rattle.vm_core.proofs.CoreFrames.{core-taken, row-length}

pub add-requires : goal.add-requires
add-requires c =
    let m = subst (λ (x : CoreData). MayTake (core_of x) c.args.a c.args.g c.args.expects c.args.mask)
    (sym c.self.view_is) c.requires.may in
    let la : c.args.a < length c.self.inside.held.items = omega (arith, c.self.invariant.held, m.names.actor) in
    let n : length c.index_mut-row.result.now ≡ (c.self.inside.shape.frames + 63) / 64 =
    row-length _ c.args.a _ _ la c.index_mut-row.ensures.value c.self.invariant.rows in
    omega (arith, n, m.names.bundle)

pub returns : goal.returns
returns c =
    let m = subst (λ (x : CoreData). MayTake (core_of x) c.args.a c.args.g c.args.expects c.args.mask)
    (sym c.self.view_is) c.requires.may in
    let la : c.args.a < length c.self.inside.held.items = omega (arith, c.self.invariant.held, m.names.actor) in
    let lg : c.args.g < length c.self.inside.bundles.items = omega (arith, c.self.invariant.bundles, m.names.bundle) in
    rw (← c.self.view_is) (core-taken _ c.args.a c.args.g c.args.expects c.args.mask c.index_mut-row.result.now _ la
    lg c.index_mut-row.ensures.value c.add.ensures.words)
