use Rattle.std.proofs.Common.{◌<◌, ◌∙◌, ap, arith, length, List, subst, sym, ℕ}
use Rattle.vm_event.specs.Prelude.{at, has_free_bit}
use Rattle.vm_event.proofs.{At.at-value, At.at_set}
use Rattle.vm_event.proofs.Masks.{removed-free}
use Rattle.vm_core.proofs.frames.FrameSet.remove_all.Goals as goal

pub returns-clause-words : goal.returns-clause-words
returns-clause-words c =
    let lt = subst (λ (x : List ℕ). c.args.g < length x) (sym c.self.view_is) c.requires in
    rw (← c.self.view_is)
    (λ f. ap (λ y. has_free_bit y f) (at_set 0 c.self.inside.masks.items c.args.g _ lt)
    ∙ removed-free (at 0 c.self.inside.masks.items) c.args.g _ c.args.mask f
    (at-value 0 c.self.inside.masks.items c.args.g _ lt c.index_mut.ensures.value)
    (omega (arith, c.ranges.mask.fits)))
