use Rattle.std.proofs.Common.{◌*◌, ◌≤◌, length, List, refl, subst, sym, ℕ}
use Rattle.std.proofs.lemmas.Result.{IfOk-weaker}
use Rattle.vm_image.specs.File.{AreFreePages}
use Rattle.vm_serve.proofs.Planned.{of-image, served-planned}
use Rattle.vm_bytes_form.specs.Bytes.{bytes}
use Rattle.vm_bytes_serve.specs.KeyServing.{key_serving}
use Rattle.vm_bytes_serve.proofs.serving.serve.Goals as goal

pub serve_on-requires-clause-tree : goal.serve_on-requires-clause-tree
serve_on-requires-clause-tree g c κs within =
    let image = c.args.image.now in
    let free = subst (λ (l : List ℕ). AreFreePages 512 image c.shape_of-shape.result.next l)
    (sym c.as_slice.ensures.value) c.in-Ok-free_pages.ensures in
    (image, of-image bytes image c.args.plan.now _ _ _ c.requires.tree c.in-Ok.ensures.blocks c.shape_of-shape.ensures.next free)

pub serve_on-requires-clause-frames : goal.serve_on-requires-clause-frames
serve_on-requires-clause-frames g c κs within =
    subst (λ n. (64 ≤ n) × (n ≤ 65536) × (8 * length c.args.lists.now ≤ n)) (sym c.shape_of-shape.ensures.asked.1) c.requires.frames

pub returns-clause-served : goal.returns-clause-served
returns-clause-served g c =
    let image = c.args.image.now in
    let made = c.in-Ok.ensures.blocks in
    let free = subst (λ (l : List ℕ). AreFreePages 512 image c.shape_of-shape.result.next l)
    (sym c.as_slice.ensures.value) c.in-Ok-free_pages.ensures in
    let may = of-image bytes image c.args.plan.now _ _ _ c.requires.tree made c.shape_of-shape.ensures.next free in
    IfOk-weaker c.serve_on.result _ _
    (λ s is. let into = is image may in record {
      told = into.told;
      stand = into.stand;
      served = record {
        ranks = served-planned key_serving image c.args.plan.now _ _ _ _ _ _ made c.requires.plan into.served.ranks;
        heard = into.served.heard refl;
      };
    }) c.serve_on.ensures.served
