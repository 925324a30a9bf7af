use Rattle.std.proofs.Common.{◌<◌, ◌∙◌, ap, arith, length, List, subst, sym, true, ℕ}
use Rattle.vm_event.specs.Prelude.{Page, page_after}
use Rattle.vm_event.specs.PageStep.{page_seen, PageLegal}
use Rattle.vm_event.specs.Step.{MayAct}
use Rattle.vm_core.specs.Prelude.{core_of, CoreData, page_of, words_of_frames}
use Rattle.vm_core.proofs.{Act.act-at, CorePages.page-here, Fits.act-fits}
use Rattle.vm_core.proofs.machine.Core.act_at.Goals as goal

pub act-requires-clause-may : goal.act-requires-clause-may
act-requires-clause-may c =
    let m = subst (λ (x : CoreData). MayAct (core_of x) c.args.a c.args.p c.args.act) (sym c.self.view_is) c.requires in
    let lp : c.args.p < length c.self.inside.pages.items = omega (arith, c.self.invariant.pages, m.0.page) in
    subst (λ (fs : List (List ℕ)).
    PageLegal true (words_of_frames fs) (page_of c.index_mut-page.result.now) c.args.a c.args.act)
    (sym c.deref.ensures.value)
    (subst (λ (r : Page). PageLegal true (words_of_frames c.self.inside.frames.items) r c.args.a c.args.act)
    (page-here _ c.args.p _ lp c.index_mut-page.ensures.value) m.1)

pub invariant_of-self : goal.invariant_of-self
invariant_of-self c =
    let m = subst (λ (x : CoreData). MayAct (core_of x) c.args.a c.args.p c.args.act) (sym c.self.view_is) c.requires in
    let lp : c.args.p < length c.self.inside.pages.items = omega (arith, c.self.invariant.pages, m.0.page) in
    act-fits _ (words_of_frames c.deref.result.now) c.args.a c.args.p c.args.act _ _ c.self.invariant lp
    c.index_mut-page.ensures.value c.act.ensures.seats c.act.ensures.page

pub returns-clause-next : goal.returns-clause-next
returns-clause-next c =
    let m = subst (λ (x : CoreData). MayAct (core_of x) c.args.a c.args.p c.args.act) (sym c.self.view_is) c.requires in
    let lp : c.args.p < length c.self.inside.pages.items = omega (arith, c.self.invariant.pages, m.0.page) in
    rw (← c.self.view_is) (act-at _ c.args.a c.args.p c.args.act c.index_mut-page.result.now c.act.new.self lp
    c.index_mut-page.ensures.value
    (c.act.ensures.page ∙ ap (λ (fs : List (List ℕ)).
    page_after (words_of_frames fs) (page_of c.index_mut-page.result.now) c.args.a c.args.act) c.deref.ensures.value))

pub returns-clause-sight : goal.returns-clause-sight
returns-clause-sight c =
    let m = subst (λ (x : CoreData). MayAct (core_of x) c.args.a c.args.p c.args.act) (sym c.self.view_is) c.requires in
    let lp : c.args.p < length c.self.inside.pages.items = omega (arith, c.self.invariant.pages, m.0.page) in
    rw (← c.self.view_is) (c.act.ensures.sight ∙ ap (λ (r : Page). page_seen r c.args.a c.args.act)
    (sym (page-here _ c.args.p _ lp c.index_mut-page.ensures.value)))
