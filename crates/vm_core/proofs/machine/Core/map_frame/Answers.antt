use Rattle.std.proofs.Common.{◌<◌, arith, length, subst, sym}
use Rattle.vm_core.specs.Prelude.{core_of, CoreData}
use Rattle.vm_event.specs.Step.{MayPut}
use Rattle.vm_core.proofs.machine.Core.map_frame.Goals as goal
use Rattle.vm_core.proofs.CoreFrames.{core-installed}

pub returns : goal.returns
returns c =
    let m = subst (λ (x : CoreData). MayPut (core_of x) c.args.a c.args.p c.args.f) (sym c.self.view_is) c.requires in
    let la : c.args.a < length c.self.inside.held.items = omega (arith, c.self.invariant.held, m.names.actor) in
    let lp : c.args.p < length c.self.inside.pages.items = omega (arith, c.self.invariant.pages, m.names.page) in
    rw (← c.self.view_is) (core-installed _ c.args.a c.args.p c.args.f _ _ _ _ lp la c.index_mut-page.ensures.value
    c.install.ensures.page c.index_mut-row.ensures.value c.remove.ensures.words)
