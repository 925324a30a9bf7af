use Rattle.std.proofs.Common.{◌<◌, false, length, subst, sym}
use Rattle.vm_event.specs.Prelude.{MayEmpty}
use Rattle.vm_core.specs.Prelude.{page_of, PageData}
use Rattle.vm_event.proofs.{At.locks-write, Locks.locks-empty}
use Rattle.vm_core.proofs.page.PageCell.release_evicted.Goals as goal

pub invariant_of-self : goal.invariant_of-self
invariant_of-self c =
    let lt : c.args.a < length c.self.inside.seats.items = subst (λ (r : PageData). c.args.a < length r.seats)
    (sym c.self.view_is) c.requires.seat in
    let m = subst (λ (r : PageData). MayEmpty (page_of r) c.args.a) (sym c.self.view_is) c.requires.may in
    locks-write _ _ _ _ _ (λ s. record s { exclusive = false }) lt c.index_mut.ensures.value
    (locks-empty _ _ _ _ _ m.owns c.self.invariant)
