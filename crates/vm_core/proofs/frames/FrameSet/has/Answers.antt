use Rattle.std.specs.Int.{bit_at}
use Rattle.std.proofs.Common.{◌%◌, ◌/◌, ◌<◌, ◌∙◌, ap, eqb, length, List, subst, sym, ℕ}
use Rattle.std.proofs.lemmas.Nat.Bits.{shr_and_one}
use Rattle.vm_event.specs.Prelude.{has_free_bit}
use Rattle.vm_event.proofs.At.{at-value}
use Rattle.vm_core.proofs.frames.FrameSet.has.Goals as goal

pub returns : goal.returns
unfolding has_free_bit
returns c =
    let lt = subst (λ (x : List ℕ). c.args.f / 64 < length x) (sym c.self.view_is) c.requires in
    rw (← c.self.view_is) (ap (λ y. eqb y 1) (shr_and_one _ _) ∙ ap (λ y. eqb (bit_at y (c.args.f % 64)) 1)
    (sym (at-value 0 c.self.inside.masks.items (c.args.f / 64) _ lt c.index.ensures)))
