use Rattle.std.proofs.Common.{◌∙◌, arith, refl, sym}
use Rattle.std.proofs.lemmas.Bool.{eq-eqb, eqb-true}
use Rattle.std.proofs.lemmas.Nat.{and_comm}
use Rattle.vm_event.specs.Prelude.{at}
use Rattle.vm_event.proofs.Masks.{none-held}
use Rattle.vm_core.proofs.machine.Core.may_give_numbers.Goals as goal

pub returns-then-spare-mask-eq0 : goal.returns-then-spare-mask-eq0
returns-then-spare-mask-eq0 c =
    let both = none-held (at 0 c.args.self.now.spares) c.args.g c.spare.result c.args.mask (sym c.spare.ensures)
    (omega (arith, c.ranges.mask.fits)) in (
      (λ t. record {
        names = c.if-not-names_spares.ensures.0 refl;
        some = c.if-mask-eq0.false;
        inside = c.if-not-are_pages.ensures.0 refl;
        unset = λ _. both.0 (and_comm c.args.mask c.spare.result ∙ c.if-spare-mask-eq0.true);
        unheld = λ _. c.nobody_else_holds.ensures.0 t;
      }),
      (λ m. c.nobody_else_holds.ensures.1 (m.unheld refl)),
    )

pub returns-else-spare-mask-eq0 : goal.returns-else-spare-mask-eq0
returns-else-spare-mask-eq0 c =
    let both = none-held (at 0 c.args.self.now.spares) c.args.g c.spare.result c.args.mask (sym c.spare.ensures)
    (omega (arith, c.ranges.mask.fits)) in (
      (λ t. absurd (c.if-spare-mask-eq0.false (eqb-true _ _ t))),
      (λ m. eq-eqb _ _ (and_comm c.spare.result c.args.mask ∙ both.1 (m.unset refl))),
    )
