use Rattle.std.proofs.Common.{◌<◌, arith, length, subst, sym}
use Rattle.vm_core.specs.Prelude.{core_of, CoreData}
use Rattle.vm_event.specs.Step.{MayGiveNumbers}
use Rattle.vm_core.proofs.machine.Core.numbers_to_word.Goals as goal
use Rattle.vm_core.proofs.CoreFrames.{core-numbers_given}

pub returns : goal.returns
returns c =
    let m = subst (λ (x : CoreData). MayGiveNumbers (core_of x) c.args.a c.args.g c.args.mask) (sym c.self.view_is) c.requires in
    let la : c.args.a < length c.self.inside.numbers.items = omega (arith, c.self.invariant.numbers, m.names.actor) in
    let lg : c.args.g < length c.self.inside.spares.items = omega (arith, c.self.invariant.spares, m.names.word) in
    rw (← c.self.view_is) (core-numbers_given _ c.args.a c.args.g _ c.args.mask c.index_mut-row.result.now _ la lg
    c.index_mut.ensures.value c.index_mut-row.ensures.value c.remove_all.ensures.words)
