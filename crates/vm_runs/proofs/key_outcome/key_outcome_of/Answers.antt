use Rattle.std.proofs.Common.{◌++◌, ◌∙◌, ◌≡◌, ap, arith, List, subst, sym, ℕ}
use Rattle.vm_block.specs.declared.memory.MemBlock.{MemBlock}
use Rattle.vm_tree_model.specs.Tree.{IsTree, map_of}
use Rattle.vm_image.specs.Blocks.{pages_of_blocks}
use Rattle.vm_bytes_form.specs.{Bytes.bytes as keyed, Forms.KeyEntry, KeyMap.ranks_of}
use Rattle.vm_bytes_text.specs.KeyTexts.{key_rows_text}
use Rattle.vm_reading.specs.from_vm_bytes_calls.declared_answers_KeyReplies.{KeyReplies}
use Rattle.vm_reading.specs.from_vm_bytes_calls.KeyAnswers.{KeepsKeyAnswers}
use Rattle.vm_reading.specs.from_vm_bytes_replies.KeyLines.{AreAnswered, key_worker_lines}
use Rattle.vm_reading.specs.from_vm_drive.{Drives.items_of, Lists.AreKept}
use Rattle.vm_reading.proofs.from_vm_serve.Planned.{saved}
use Rattle.vm_reading.specs.from_vm_endings.{Deliveries.written_of, KeyRuns.KeepsKeys, Replies.counters_of}
use Rattle.vm_runs.proofs.key_outcome.key_outcome_of.Goals as goal
use Rattle.vm_runs.proofs.KeyOutcomes.{answered, key_cut, key_flushed, key_made}

pub key_cut_text-requires-clause-answered : goal.key_cut_text-requires-clause-answered
key_cut_text-requires-clause-answered g c =
    subst (λ (l : List KeyReplies). AreAnswered (items_of c.args.lists.now) l) (sym c.as_slice.ensures.value)
    (answered c.args.run.now c.args.image.now (items_of c.args.lists.now) _ 0 0 c.in-Ok.served c.in-Ok.ensures.served)

pub returns-in-Some : goal.returns-in-Some
returns-in-Some g c =
    let run = c.args.run.now in
    let image = c.args.image.now in
    let lists = items_of c.args.lists.now in
    let s = c.in-Ok.served in
    let into = c.in-Ok.ensures.served in
    let of = key_made run image lists c.as_slice-plan.result.now c.unwrap_or-version.result _ s into
    c.in-Ok.ensures.version c.in-Ok.ensures.frames c.as_slice-plan.ensures.value c.unwrap_or-version.ensures (omega arith) in
    let kept = subst (λ (l : List KeyReplies). AreKept KeepsKeyAnswers l into.told) (sym c.as_slice.ensures.value) into.stand in
    key_cut run image lists s.ended of s.evicted c.in-Some.page c.in_ok-text-in-Some.text c.told.result c.in-Some.is
    (c.in_ok-text-in-Some.ensures into.told kept) c.told.ensures

pub keys_stored_in-requires-clause-tree : goal.keys_stored_in-requires-clause-tree
keys_stored_in-requires-clause-tree g c =
    let is = c.in-Ok.ensures.served.served.ranks in
    subst (λ (b : List (MemBlock 512)). IsTree keyed (pages_of_blocks b)) (sym c.as_slice-in-None.ensures.value)
    (saved _ _ _ _ _ _ _ is (is.on.flushed c.in-None.is)).0

pub keys_kept-requires : goal.keys_kept-requires
keys_kept-requires g c =
    let is = c.in-Ok.ensures.served.served.ranks in
    let held : c.in_ok-image-in-None.field-0.image ≡ pages_of_blocks c.in-Ok.served.blocks.items =
    c.in_ok-image-in-None.ensures.image
    ∙ ap (λ (b : List (MemBlock 512)). pages_of_blocks b) c.as_slice-in-None.ensures.value in
    subst (λ (l : List (List ℕ)). IsTree keyed l) (sym held) (saved _ _ _ _ _ _ _ is (is.on.flushed c.in-None.is)).0

pub key_whole_text-requires-clause-answered : goal.key_whole_text-requires-clause-answered
key_whole_text-requires-clause-answered g c =
    subst (λ (l : List KeyReplies). AreAnswered (items_of c.args.lists.now) l) (sym c.as_slice-in-None-2.ensures.value)
    (answered c.args.run.now c.args.image.now (items_of c.args.lists.now) _ 0 0 c.in-Ok.served c.in-Ok.ensures.served)

pub returns : goal.returns
returns g c =
    let run = c.args.run.now in
    let image = c.args.image.now in
    let lists = items_of c.args.lists.now in
    let s = c.in-Ok.served in
    let into = c.in-Ok.ensures.served in
    let of = key_made run image lists c.as_slice-plan.result.now c.unwrap_or-version.result _ s into
    c.in-Ok.ensures.version c.in-Ok.ensures.frames c.as_slice-plan.ensures.value c.unwrap_or-version.ensures (omega arith) in
    let kept = subst (λ (l : List KeyReplies). AreKept KeepsKeyAnswers l into.told) (sym c.as_slice-in-None-2.ensures.value) into.stand in
    let blocks : c.as_slice-in-None.result.now ≡ s.blocks.items = c.as_slice-in-None.ensures.value in
    let pages : c.in_ok-image-in-None.field-0.image ≡ pages_of_blocks s.blocks.items =
    c.in_ok-image-in-None.ensures.image ∙ ap (λ (b : List (MemBlock 512)). pages_of_blocks b) blocks in
    let ranks : ranks_of c.in_ok-image-in-None.field-0.rows.pairs.items ≡ map_of keyed (pages_of_blocks s.blocks.items) =
    c.in_ok-image-in-None.ensures.rows ∙ ap (λ (b : List (MemBlock 512)). map_of keyed (pages_of_blocks b)) blocks in
    let text = c.in_ok-text-in-None.ensures into.told kept
    ∙ ap (λ (k : List KeyEntry). key_worker_lines 0 lists into.told ++ key_rows_text (ranks_of k) ++ counters_of s.ended s.evicted)
    c.as_slice-rows.ensures.value in
    key_flushed run image lists s.ended of s.evicted c.in_ok-image-in-None.field-0.rows.pairs.items c.in_ok-text-in-None.text
    c.in_ok-file-in-None.file c.told-in-None.result c.in-None.is ranks text
    (subst (λ (p : List (List ℕ)). KeepsKeys run.options.keep p (written_of c.in_ok-file-in-None.file)) pages
    c.in_ok-file-in-None.ensures) c.told-in-None.ensures
