use Rattle.std.proofs.Common.{[], ◌∙◌, arith, List, rules, subst, sym, true, ℕ}
use Rattle.vm_tree_model.specs.Fixed.{fixed}
use Rattle.vm_image.specs.File.{AreFreePages}
use Rattle.vm_step.specs.Prelude.{view}
use Rattle.vm_serve.proofs.Planned.{of-image}
use Rattle.vm_face.specs.Closed.{IsStoreOpened}
use Rattle.vm_face.proofs.image.open_image.Goals as goal

pub open_on-requires : goal.open_on-requires
open_on-requires g c =
    let image = c.in-Ok.image in
    let free = subst (λ (l : List ℕ). AreFreePages g.row.N image c.next.result l) (sym c.as_slice.ensures.value)
    c.in-Ok-free_pages.ensures in
    let may = of-image (fixed g.row.N) image [] _ _ _ c.in-Ok-check.ensures.tree c.in-Ok-blocks_of.ensures.blocks c.next.ensures free in
    let pages = c.pages.ensures.pages ∙ sym c.in-Ok-blocks_of.ensures.count in
    (search rules, (omega arith, ((image, may), ((pages, c.pages.ensures.few), (omega arith, (omega arith, omega arith))))))

pub returns-in-Ok-open_on-clause-opened : goal.returns-in-Ok-open_on-clause-opened
returns-in-Ok-open_on-clause-opened g c =
    let image = c.in-Ok.image in
    let free = subst (λ (l : List ℕ). AreFreePages g.row.N image c.next.result l) (sym c.as_slice.ensures.value)
    c.in-Ok-free_pages.ensures in
    let may = of-image (fixed g.row.N) image [] _ _ _ c.in-Ok-check.ensures.tree c.in-Ok-blocks_of.ensures.blocks c.next.ensures free in
    subst (λ (l : List (List ℕ)). IsStoreOpened true l (view c.in-Ok-open_on.store.pass)) c.in-Ok.ensures.answer.1
    (c.in-Ok-open_on.ensures.opened image may)
