use Rattle.std.proofs.Common.{◌++◌, ◌∙◌, ◌≡◌, ap, arith, length, List, refl, subst, sym, ℕ}
use Rattle.vm_block.specs.declared.memory.MemBlock.{MemBlock}
use Rattle.vm_map.specs.Map.{Pairs}
use Rattle.vm_tree_model.specs.{Fixed.fixed, Tree.IsTree, Tree.map_of}
use Rattle.vm_image.specs.Blocks.{pages_of_blocks}
use Rattle.vm_reading.specs.from_vm_drive.Prelude.{all_replies}
use Rattle.vm_reading.specs.from_vm_drive.Drives.{items_of}
use Rattle.vm_script.specs.Texts.{rows_text, worker_replies}
use Rattle.vm_reading.proofs.from_vm_serve.Planned.{as-many, saved}
use Rattle.vm_reading.specs.from_vm_endings.{Deliveries.written_of, Made.last_map, Replies.all_lines, Replies.counters_of, Runs.IsKept}
use Rattle.vm_reading.proofs.from_vm_endings.Telling.{matched}
use Rattle.vm_runs.proofs.outcome.outcome_of.Goals as goal
use Rattle.vm_runs.proofs.Outcomes.{cut_outcome, flushed_outcome, made}

pub cut_text-requires-clause-matched : goal.cut_text-requires-clause-matched
cut_text-requires-clause-matched g c = rw c.as_slice.ensures.value (matched _ _ _ c.in-Ok.ensures.served.on.calls)

pub returns-in-Some : goal.returns-in-Some
returns-in-Some g c =
    let run = c.args.run.now in
    let image = c.args.image.now in
    let lists = items_of c.args.lists.now in
    let s = c.in-Ok.served in
    let of = made g.row.N run image lists c.as_slice-plan.result.now c.unwrap_or-version.result _ s
    c.in-Ok.ensures.served c.in-Ok.ensures.version c.in-Ok.ensures.frames c.as_slice-plan.ensures.value
    c.unwrap_or-version.ensures (omega arith) in
    let text = rw c.as_slice.ensures.value at c.in_ok-text-in-Some.ensures in
    cut_outcome g.row.N run image lists s.ended c.in-Some.page c.in_ok-text-in-Some.text c.told.result s.evicted of
    c.in-Some.is text c.told.ensures

pub stored_in-requires : goal.stored_in-requires
stored_in-requires g c =
    let is = c.in-Ok.ensures.served in
    let blocks : c.as_slice-in-None.result.now ≡ c.in-Ok.served.blocks.items = c.as_slice-in-None.ensures.value in
    let tree : IsTree (fixed g.row.N) (pages_of_blocks c.as_slice-in-None.result.now) =
    subst (λ (b : List (MemBlock g.row.N)). IsTree (fixed g.row.N) (pages_of_blocks b)) (sym blocks)
    (saved _ _ _ _ _ _ _ is (is.on.flushed c.in-None.is)).0 in
    let many : length c.as_slice-in-None.result.now ≡ length c.args.image.now =
    ap (λ (b : List (MemBlock g.row.N)). length b) blocks ∙ as-many _ _ _ _ _ _ _ is in
    let read = c.pages-pages.ensures in
    (omega arith, (omega arith, (read.sized, (tree, (omega (arith, many, read.some), omega (arith, many, read.most))))))

pub kept-requires : goal.kept-requires
kept-requires g c =
    let is = c.in-Ok.ensures.served in
    let held : c.in_ok-image-in-None.field-0.image ≡ pages_of_blocks c.in-Ok.served.blocks.items =
    c.in_ok-image-in-None.ensures.image
    ∙ ap (λ (b : List (MemBlock g.row.N)). pages_of_blocks b) c.as_slice-in-None.ensures.value in
    let tree : IsTree (fixed g.row.N) c.in_ok-image-in-None.field-0.image =
    subst (λ (l : List (List ℕ)). IsTree (fixed g.row.N) l) (sym held)
    (saved _ _ _ _ _ _ _ is (is.on.flushed c.in-None.is)).0 in
    (omega arith, (c.pages-pages.ensures.sized, tree))

pub whole_text-requires-clause-matched : goal.whole_text-requires-clause-matched
whole_text-requires-clause-matched g c = rw c.as_slice-in-None-2.ensures.value (matched _ _ _ c.in-Ok.ensures.served.on.calls)

pub returns : goal.returns
returns g c =
    let run = c.args.run.now in
    let image = c.args.image.now in
    let lists = items_of c.args.lists.now in
    let s = c.in-Ok.served in
    let is = c.in-Ok.ensures.served in
    let of = made g.row.N run image lists c.as_slice-plan.result.now c.unwrap_or-version.result _ s is
    c.in-Ok.ensures.version c.in-Ok.ensures.frames c.as_slice-plan.ensures.value c.unwrap_or-version.ensures
    (omega arith) in
    let m : Pairs = map_of (fixed g.row.N) (pages_of_blocks s.blocks.items) in
    let last : m ≡ last_map g.row.N image s.ended = (saved _ _ _ _ _ _ _ is (is.on.flushed c.in-None.is)).1 in
    let blocks : c.as_slice-in-None.result.now ≡ s.blocks.items = c.as_slice-in-None.ensures.value in
    let pages : c.in_ok-image-in-None.field-0.image ≡ pages_of_blocks s.blocks.items =
    c.in_ok-image-in-None.ensures.image ∙ ap (λ (b : List (MemBlock g.row.N)). pages_of_blocks b) blocks in
    let pairs : c.in_ok-image-in-None.field-0.rows.pairs.items ≡ m = c.in_ok-image-in-None.ensures.rows
    ∙ ap (λ (b : List (MemBlock g.row.N)). map_of (fixed g.row.N) (pages_of_blocks b)) blocks in
    let kept : IsKept g.row.N run.options.keep c.in_ok-image-in-None.field-0.image
    (written_of c.in_ok-file-in-None.file) = c.in_ok-file-in-None.ensures in
    let text = (rw c.as_slice-in-None-2.ensures.value at c.in_ok-text-in-None.ensures)
    ∙ ap (λ (k : Pairs). worker_replies 0 (all_lines lists (all_replies s.replies.items)) ++ rows_text
    k ++ counters_of s.ended s.evicted) (c.as_slice-rows.ensures.value ∙ pairs) in
    flushed_outcome g.row.N run image lists s.ended m c.in_ok-text-in-None.text c.in_ok-file-in-None.file
    c.told-in-None.result s.evicted of c.in-None.is refl last text
    (subst (λ (p : List (List ℕ)). IsKept g.row.N run.options.keep p (written_of c.in_ok-file-in-None.file)) pages
    kept) c.told-in-None.ensures
