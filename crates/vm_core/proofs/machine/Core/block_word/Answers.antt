use Rattle.std.proofs.Common.{◌<◌, ◌∙◌, ap, arith, length, slice_index, subst, sym}
use Rattle.vm_event.specs.Prelude.{Page}
use Rattle.vm_core.specs.Prelude.{CoreData}
use Rattle.vm_core.proofs.CorePages.{page-here}
use Rattle.vm_core.proofs.machine.Core.block_word.Goals as goal

pub returns : goal.returns
returns c =
    let r = subst (λ (x : CoreData). c.args.p < x.shape.pages) (sym c.self.view_is) c.requires.page in
    let lp : c.args.p < length c.self.inside.pages.items = omega (arith, c.self.invariant.pages, r) in
    rw (← c.self.view_is) (c.block_word.ensures ∙ ap (λ (r : Page). slice_index r.block c.args.i)
    (sym (page-here _ c.args.p _ lp c.index.ensures)))
