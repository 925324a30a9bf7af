use Rattle.std.proofs.Common.{◌+◌, ◌/◌, ◌<◌, ◌≡◌, arith, length, subst, sym}
use Rattle.vm_core.specs.Prelude.{core_of, CoreData}
use Rattle.vm_event.specs.Step.{MayTakeNumbers}
use Rattle.vm_core.proofs.machine.Core.numbers_to_actor.Goals as goal
use Rattle.vm_core.proofs.CoreFrames.{core-numbers_taken, row-length}

pub add-requires : goal.add-requires
add-requires c =
    let m = subst (λ (x : CoreData). MayTakeNumbers (core_of x) c.args.a c.args.g c.args.expects c.args.mask)
    (sym c.self.view_is) c.requires.may in
    let la : c.args.a < length c.self.inside.numbers.items = omega (arith, c.self.invariant.numbers, m.names.actor) in
    let n : length c.index_mut-row.result.now ≡ (c.self.inside.shape.pages + 63) / 64 =
    row-length _ c.args.a _ _ la c.index_mut-row.ensures.value c.self.invariant.number_rows in
    omega (arith, n, m.names.word)

pub returns : goal.returns
returns c =
    let m = subst (λ (x : CoreData). MayTakeNumbers (core_of x) c.args.a c.args.g c.args.expects c.args.mask)
    (sym c.self.view_is) c.requires.may in
    let la : c.args.a < length c.self.inside.numbers.items = omega (arith, c.self.invariant.numbers, m.names.actor) in
    let lg : c.args.g < length c.self.inside.spares.items = omega (arith, c.self.invariant.spares, m.names.word) in
    rw (← c.self.view_is) (core-numbers_taken _ c.args.a c.args.g c.args.expects c.args.mask
    c.index_mut-row.result.now _ la lg c.index_mut-row.ensures.value c.add.ensures.words)
