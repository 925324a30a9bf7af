use Rattle.std.proofs.Common.{◌<◌, length, refl, subst, sym}
use Rattle.vm_core.specs.Prelude.{PageData}
use Rattle.vm_event.proofs.{At.locks-write, Locks.locks-seat}
use Rattle.vm_core.proofs.page.PageCell.load_translation.Goals as goal

pub invariant_of-self : goal.invariant_of-self
invariant_of-self c =
    let lt : c.args.a < length c.self.inside.seats.items = subst (λ (r : PageData). c.args.a < length r.seats)
    (sym c.self.view_is) c.requires in
    locks-write _ _ _ _ _ (λ s. record s { reading = c.framed-reading.result }) lt c.index_mut.ensures.value
    (locks-seat _ _ _ _ _ _ c.self.invariant refl refl refl)
