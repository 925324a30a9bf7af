use Rattle.std.proofs.Common.{◌/◌, ◌<◌, ◌∙◌, ap, length, List, subst, sym, ℕ}
use Rattle.vm_event.specs.Prelude.{at, has_free_bit}
use Rattle.vm_event.proofs.{At.at-value, At.at_set}
use Rattle.vm_event.proofs.Masks.{cleared-free}
use Rattle.vm_core.proofs.frames.FrameSet.remove.Goals as goal

pub returns-clause-words : goal.returns-clause-words
returns-clause-words c =
    let lt = subst (λ (x : List ℕ). c.args.f / 64 < length x) (sym c.self.view_is) c.requires in
    rw (← c.self.view_is) (ap has_free_bit (at_set 0 c.self.inside.masks.items (c.args.f / 64) _ lt)
    ∙ cleared-free (at 0 c.self.inside.masks.items) c.args.f _
    (at-value 0 c.self.inside.masks.items (c.args.f / 64) _ lt c.index_mut.ensures.value))
