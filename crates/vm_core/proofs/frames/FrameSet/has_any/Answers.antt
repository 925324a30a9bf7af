use Rattle.std.proofs.Common.{◌<◌, ap, arith, length, List, not, subst, sym, ℕ}
use Rattle.std.proofs.lemmas.Bool.{eq-eqb, eqb-true, not-false}
use Rattle.vm_event.specs.Prelude.{at}
use Rattle.vm_event.proofs.{At.at-value}
use Rattle.vm_event.proofs.Masks.{none-held}
use Rattle.vm_core.proofs.frames.FrameSet.has_any.Goals as goal

pub returns : goal.returns
returns c =
    let lt = subst (λ (x : List ℕ). c.args.g < length x) (sym c.self.view_is) c.requires in
    let both = none-held (at 0 c.self.inside.masks.items) c.args.g c.index.result.now c.args.mask
    (at-value 0 c.self.inside.masks.items c.args.g _ lt c.index.ensures) (omega (arith, c.ranges.mask.fits)) in
    rw (← c.self.view_is) ((λ t. both.0 (eqb-true _ _ (not-false _ t))), (λ h. ap not (eq-eqb _ _ (both.1 h))))
