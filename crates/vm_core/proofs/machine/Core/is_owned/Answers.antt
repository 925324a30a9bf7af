use Rattle.std.proofs.Common.{◌<◌, ◌∙◌, ◌≡◌, ap, arith, length, None, refl, Some, subst, sym}
use Rattle.std.proofs.lemmas.Bool.{eq-eqb, eqb-true}
use Rattle.vm_event.specs.Prelude.{at, Page}
use Rattle.vm_core.specs.Prelude.{CoreData, pages_of}
use Rattle.vm_event.specs.declared.event.Mapping.{Mapping}
use Rattle.vm_event.proofs.{At.at-value, PageFacts.none-some, PageFacts.some-same}
use Rattle.vm_core.proofs.{CorePages.frame-in, CorePages.page-here}
use Rattle.vm_core.proofs.machine.Core.is_owned.Goals as goal

pub returns-in-Some : goal.returns-in-Some
returns-in-Some c =
    let n : c.args.p < c.self.inside.shape.pages = subst (λ (x : CoreData). c.args.p < x.shape.pages) (sym c.self.view_is) c.requires in
    let lp : c.args.p < length c.self.inside.pages.items = omega (arith, c.self.invariant.pages, n) in
    let stands : (pages_of c.self.inside.pages.items c.args.p).trans ≡ Some c.in-Some.mapping =
    ap (λ (r : Page). r.trans) (page-here _ c.args.p _ lp c.index.ensures) ∙ sym c.mapping.ensures
    ∙ c.in-Some.is in
    let lf = frame-in c.self.inside.pages.items _ c.args.p c.in-Some.mapping.frame c.in-Some.mapping.dirty lp
    c.self.invariant.mapped stands in
    let lo : c.in-Some.mapping.frame < length c.self.inside.owners.items = omega (arith, c.self.invariant.owners, lf) in
    let here = at-value 0 c.self.inside.owners.items c.in-Some.mapping.frame _ lo c.index-in-Some.ensures in
    rw (← c.self.view_is) (
      (λ e m there. ap (λ (y : Mapping). at 0 c.self.inside.owners.items y.frame)
          (some-same m c.in-Some.mapping (sym there ∙ stands)) ∙ here ∙ eqb-true _ _ e),
      (λ o. eq-eqb _ _ (sym here ∙ o c.in-Some.mapping stands)),
    )

pub returns-in-None : goal.returns-in-None
returns-in-None c =
    let n : c.args.p < c.self.inside.shape.pages = subst (λ (x : CoreData). c.args.p < x.shape.pages) (sym c.self.view_is) c.requires in
    let lp : c.args.p < length c.self.inside.pages.items = omega (arith, c.self.invariant.pages, n) in
    let empty : (pages_of c.self.inside.pages.items c.args.p).trans ≡ None =
    ap (λ (r : Page). r.trans) (page-here _ c.args.p _ lp c.index.ensures) ∙ sym c.mapping.ensures
    ∙ c.in-None.is in
    rw (← c.self.view_is) ((λ _ m there. absurd (none-some m (sym empty ∙ there))), (λ _. refl))
