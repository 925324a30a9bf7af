use Rattle.std.proofs.Common.{◌<◌, ◌∙◌, ap, bit_or, length, List, subst, sym, ℕ}
use Rattle.vm_event.specs.Prelude.{at, upd}
use Rattle.vm_event.proofs.At.{at-value, at_set}
use Rattle.vm_core.proofs.frames.FrameSet.add.Goals as goal

pub returns-clause-words : goal.returns-clause-words
returns-clause-words c =
    let lt = subst (λ (x : List ℕ). c.args.g < length x) (sym c.self.view_is) c.requires in
    rw (← c.self.view_is) (at_set 0 c.self.inside.masks.items c.args.g _ lt
    ∙ ap (λ y. upd (at 0 c.self.inside.masks.items) c.args.g (bit_or y c.args.mask))
    (sym (at-value 0 c.self.inside.masks.items c.args.g _ lt c.index_mut.ensures.value)))
