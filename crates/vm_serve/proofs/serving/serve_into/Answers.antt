use Rattle.std.proofs.Common.{[], ◌*◌, ◌∙◌, ◌≤◌, arith, length, List, subst, sym, ℕ}
use Rattle.std.proofs.lemmas.Result.{IfOk-weaker}
use Rattle.vm_image.specs.File.{AreFreePages}
use Rattle.vm_event.specs.Prelude.{MAX_VERSION}
use Rattle.vm_tree_model.specs.Fixed.{fixed}
use Rattle.vm_serve.specs.Serving.{word_serving}
use Rattle.vm_serve.proofs.Planned.{of-image, served-planned}
use Rattle.vm_serve.proofs.serving.serve_into.Goals as goal

pub serve_on-requires-after_bounds : goal.serve_on-requires-after_bounds
serve_on-requires-after_bounds g c κs within =
    let shape = c.shape_of-shape.ensures in
    let free = subst (λ (l : List ℕ). AreFreePages g.row.N c.args.image c.shape_of-shape.result.next l)
    (sym c.as_slice.ensures.value) c.in-Ok-free_pages.ensures in
    let may = of-image (fixed g.row.N) c.args.image [] _ _ _ c.requires.tree c.in-Ok.ensures.blocks shape.next free in
    let frames = subst (λ n. (64 ≤ n) × (n ≤ 65536) × (8 * length c.args.lists.now ≤ n)) (sym shape.asked.1) c.requires.frames in (
      omega arith,
      (
        (c.args.image, may),
        (
          (shape.pages.0 ∙ sym c.in-Ok.ensures.count, shape.pages.1),
          (
            subst (λ n. n ≤ MAX_VERSION) (sym shape.asked.0) c.requires.version,
            (frames, (c.requires.lists, (c.requires.few, (c.requires.askable, c.requires.rooms)))),
          ),
        ),
      ),
    )

pub returns-clause-served : goal.returns-clause-served
returns-clause-served g c =
    let made = c.in-Ok.ensures.blocks in
    let free = subst (λ (l : List ℕ). AreFreePages g.row.N c.args.image c.shape_of-shape.result.next l)
    (sym c.as_slice.ensures.value) c.in-Ok-free_pages.ensures in
    let may = of-image (fixed g.row.N) c.args.image [] _ _ _ c.requires.tree made c.shape_of-shape.ensures.next free in
    IfOk-weaker c.serve_on.result _ _
    (λ s is. let into = is c.args.image may in record {
      told = into.told;
      stand = into.stand;
      served = served-planned (word_serving g.row.N) c.args.image [] _ _ _ _ _ _ made (omega arith) into.served;
    }) c.serve_on.ensures.served
