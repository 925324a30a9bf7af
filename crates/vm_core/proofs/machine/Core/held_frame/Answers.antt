use Rattle.std.proofs.Common.{◌<◌, arith, length, subst, sym}
use Rattle.vm_event.specs.Prelude.{NamesActorAndPage, Page}
use Rattle.vm_core.specs.Prelude.{core_of, CoreData, HeldFrame}
use Rattle.vm_core.proofs.{CorePages.page-here, Owned.owned-frame}
use Rattle.vm_core.proofs.machine.Core.held_frame.Goals as goal

pub returns : goal.returns
returns c =
    let n = subst (λ (x : CoreData). NamesActorAndPage (core_of x) c.args.a c.args.p) (sym c.self.view_is) c.requires in
    let lp : c.args.p < length c.self.inside.pages.items = omega (arith, c.self.invariant.pages, n.page) in
    let frame = subst (λ (r : Page). HeldFrame r c.args.a c.held_frame.result)
    (sym (page-here _ c.args.p _ lp c.index.ensures)) c.held_frame.ensures in
    rw (← c.self.view_is) (owned-frame _ c.args.a c.args.p c.held_frame.result c.self.invariant n frame)
