use Rattle.std.proofs.Common.{◌*◌, ◌+◌, ◌-◌, ◌<◌, ◌≡◌, arith, subst, sym}
use Rattle.std.proofs.lemmas.Bool.{eq-eqb, eqb-true, le-leb}
use Rattle.vm_core.specs.Prelude.{CoreData}
use Rattle.vm_core.proofs.Numbers.{mask-below, mask-pages}
use Rattle.vm_core.proofs.machine.Core.are_pages.Goals as goal

pub returns-then-left : goal.returns-then-left
returns-then-left c =
    let n : c.args.g * 64 < c.self.inside.shape.pages = subst (λ (x : CoreData). c.args.g * 64 < x.shape.pages)
    (sym c.self.view_is) c.requires in
    rw (← c.self.view_is) (
      (λ _ p q. let below : p < 64 * c.args.g + 64 = mask-below c.args.g c.args.mask p q in omega (arith, n, c.if-left.true, below)),
      (λ _. le-leb _ _ c.if-left.true),
    )

pub returns-else-left : goal.returns-else-left
returns-else-left c =
    let n : c.args.g * 64 < c.self.inside.shape.pages = subst (λ (x : CoreData). c.args.g * 64 < x.shape.pages)
    (sym c.self.view_is) c.requires in
    let left : c.self.inside.shape.pages ≡ 64 * c.args.g + (c.self.inside.shape.pages - c.args.g * 64) = omega (arith, n) in
    let both = mask-pages c.args.g c.args.mask c.self.inside.shape.pages (c.self.inside.shape.pages - c.args.g * 64)
    left (omega (arith, c.ranges.mask.fits)) in
    rw (← c.self.view_is) ((λ t. both.0 (eqb-true _ _ t)), (λ h. eq-eqb _ _ (both.1 h)))
