use Rattle.std.proofs.Common.{◌+◌, ◌/◌, ◌<◌, ◌≡◌, arith, false, length, subst, sym}
use Rattle.vm_event.specs.Prelude.{HoldsAt, NamesActorAndPage}
use Rattle.vm_core.specs.Prelude.{core_of, CoreData}
use Rattle.vm_core.proofs.{CorePages.frame-in, CoreFrames.core-cleared, CoreFrames.row-length}
use Rattle.vm_core.proofs.machine.Core.unmap_frame.Goals as goal

pub insert-requires : goal.insert-requires
insert-requires c =
    let m = subst (λ (x : CoreData). NamesActorAndPage (core_of x) c.args.a c.args.p) (sym c.self.view_is) c.requires.names in
    let h = subst (λ (x : CoreData). HoldsAt ((core_of x).pages c.args.p) c.args.a c.args.f false) (sym c.self.view_is) c.requires.holds in
    let la : c.args.a < length c.self.inside.held.items = omega (arith, c.self.invariant.held, m.actor) in
    let lp : c.args.p < length c.self.inside.pages.items = omega (arith, c.self.invariant.pages, m.page) in
    let lf : c.args.f < c.self.inside.shape.frames = frame-in c.self.inside.pages.items _ c.args.p c.args.f false lp
    c.self.invariant.mapped h.stands in
    let n : length c.index_mut-row.result.now ≡ (c.self.inside.shape.frames + 63) / 64 =
    row-length _ c.args.a _ _ la c.index_mut-row.ensures.value c.self.invariant.rows in
    omega (arith, n, lf)

pub returns : goal.returns
returns c =
    let m = subst (λ (x : CoreData). NamesActorAndPage (core_of x) c.args.a c.args.p) (sym c.self.view_is) c.requires.names in
    let h = subst (λ (x : CoreData). HoldsAt ((core_of x).pages c.args.p) c.args.a c.args.f false) (sym c.self.view_is) c.requires.holds in
    let la : c.args.a < length c.self.inside.held.items = omega (arith, c.self.invariant.held, m.actor) in
    let lp : c.args.p < length c.self.inside.pages.items = omega (arith, c.self.invariant.pages, m.page) in
    rw (← c.self.view_is) (core-cleared _ c.args.a c.args.p c.args.f _ _ _ _ lp la c.index_mut-page.ensures.value
    h.stands c.clear.ensures.page c.index_mut-row.ensures.value c.insert.ensures.words)
