use Rattle.std.specs.Prelude.{◌↔◌, IsTrue}
use Rattle.std.proofs.Common.{◌<◌, arith, length, List, subst, sym, true, ℕ}
use Rattle.vm_event.specs.Prelude.{NamesActorAndPage, Page}
use Rattle.vm_event.specs.PageStep.{PageLegal}
use Rattle.vm_core.specs.Prelude.{core_of, CoreData, page_of, words_of_frames}
use Rattle.vm_core.proofs.CorePages.{page-here}
use Rattle.vm_core.proofs.machine.Core.may_at.Goals as goal

pub returns : goal.returns
returns c =
    let n = subst (λ (x : CoreData). NamesActorAndPage (core_of x) c.args.a c.args.p) (sym c.self.view_is) c.requires in
    let lp : c.args.p < length c.self.inside.pages.items = omega (arith, c.self.invariant.pages, n.page) in
    let here = subst (λ (fs : List (List ℕ)).
    IsTrue c.may.result ↔ PageLegal true (words_of_frames fs) (page_of c.index.result.now) c.args.a c.args.act)
    c.deref.ensures.value c.may.ensures in
    rw (← c.self.view_is) (subst (λ (r : Page).
    IsTrue c.may.result ↔ PageLegal true (words_of_frames c.self.inside.frames.items) r c.args.a c.args.act)
    (sym (page-here _ c.args.p _ lp c.index.ensures)) here)
