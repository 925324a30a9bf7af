use Rattle.std.proofs.Common.{◌*◌, ◌∙◌, ◌≤◌, arith, length, List, Result, subst, sym, ℕ}
use Rattle.vm_map.specs.declared.call.Reply.{Reply}
use Rattle.vm_image.specs.File.{AreFreePages}
use Rattle.vm_event.specs.Prelude.{MAX_VERSION}
use Rattle.vm_drive.specs.from_vm_tree_rule.declared_fault_TreeFault.{TreeFault}
use Rattle.vm_drive.specs.Drives.{items_of}
use Rattle.vm_drive.proofs.Crews.{kept-contents, kept-replies}
use Rattle.vm_serve.specs.Served.{IsServed}
use Rattle.vm_tree_model.specs.Fixed.{fixed}
use Rattle.vm_serve.specs.Serving.{word_serving}
use Rattle.vm_serve.proofs.Planned.{of-image, served-planned}
use Rattle.vm_serve.proofs.serving.serve.Goals as goal

pub serve_on-requires-after_bounds : goal.serve_on-requires-after_bounds
serve_on-requires-after_bounds g c κs within =
    let image = c.args.image.now in
    let shape = c.shape_of-shape.ensures in
    let free = subst (λ (l : List ℕ). AreFreePages g.row.N image c.shape_of-shape.result.next l)
    (sym c.as_slice.ensures.value) c.in-Ok-free_pages.ensures in
    let may = of-image (fixed g.row.N) image c.args.plan.now _ _ _ c.requires.tree c.in-Ok.ensures.blocks shape.next free in
    let frames = subst (λ n. (64 ≤ n) × (n ≤ 65536) × (8 * length c.args.lists.now ≤ n)) (sym shape.asked.1) c.requires.frames in (
      omega arith,
      (
        (image, may),
        (
          (shape.pages.0 ∙ sym c.in-Ok.ensures.count, shape.pages.1),
          (
            subst (λ n. n ≤ MAX_VERSION) (sym shape.asked.0) c.requires.version,
            (frames, (c.requires.lists, (c.requires.few, (c.requires.askable, c.in-Ok-rooms_for.ensures)))),
          ),
        ),
      ),
    )

pub returns-clause-served : goal.returns-clause-served
returns-clause-served g c =
    let r = c.in_ok-kept.field-0 in
    let image = c.args.image.now in
    let made = c.in-Ok.ensures.blocks in
    let free = subst (λ (l : List ℕ). AreFreePages g.row.N image c.shape_of-shape.result.next l)
    (sym c.as_slice.ensures.value) c.in-Ok-free_pages.ensures in
    let may = of-image (fixed g.row.N) image c.args.plan.now _ _ _ c.requires.tree made c.shape_of-shape.ensures.next free in
    let into = c.in_ok-kept.ensures.served image may in
    subst (λ (told : List (List (Result Reply TreeFault))). IsServed g.row.N image c.args.plan.now
    (items_of c.args.lists.now) told r.report r.blocks.items r.ended) (sym (kept-replies _ _ into.stand))
    (served-planned (word_serving g.row.N) image c.args.plan.now _ _ _ _ _ _ made c.requires.plan into.served)

pub returns-clause-contents : goal.returns-clause-contents
returns-clause-contents g c =
    let image = c.args.image.now in
    let free = subst (λ (l : List ℕ). AreFreePages g.row.N image c.shape_of-shape.result.next l)
    (sym c.as_slice.ensures.value) c.in-Ok-free_pages.ensures in
    let may = of-image (fixed g.row.N) image c.args.plan.now _ _ _ c.requires.tree c.in-Ok.ensures.blocks
    c.shape_of-shape.ensures.next free in
    let into = c.in_ok-kept.ensures.served image may in
    kept-contents _ _ into.stand
