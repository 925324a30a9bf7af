-- The search tells what stands before the place.
use Rattle.std.proofs.Common.{◌≡◌, ◌≢◌, ◌⊎◌, inl, inr, ◌-◌, ◌<◌, length, sym, ◌∙◌, arith}
use Rattle.vm_tree_model.specs.Page.{pairs_of}
use Rattle.vm_node.proofs.Telling.{told_buffer}
use Rattle.vm_bytes_form.specs.Bytes.{bytes}
use Rattle.vm_bytes_form.specs.Forms.{node_in}
use Rattle.vm_bytes_form.specs.Strings.{rank}
use Rattle.vm_bytes_node.proofs.KeyFound.{none_before, values-at}
use Rattle.vm_bytes_node.proofs.KeySearch.{length-pairs}
use Rattle.vm_bytes_edit.proofs.edits.key_place.Goals.{then-bound-eq0-via-then-bound-eq0}
use Rattle.vm_bytes_edit.proofs.edits.key_place.Goals.{then-bound-eq0-via-else-bound-eq0+then-not-same_key}
use Rattle.vm_bytes_edit.proofs.edits.key_place.Goals as goal

pub returns-then-bound-eq0-clause-placed : goal.returns-then-bound-eq0-clause-placed
returns-then-bound-eq0-clause-placed c =
    let other : (c.upper_bound_at-bound.result.at ≡ 0) ⊎ (rank c.upper_bound_at-bound.result.low ≢ rank c.args.key.now) = elim
    c.then-bound-eq0.branch [
      | then-bound-eq0-via-then-bound-eq0 w ↦ inl w.if-bound-eq0.true
      | then-bound-eq0-via-else-bound-eq0+then-not-same_key w ↦ inr (w.same_key.ensures.rank.1 w.if-not-same_key.true)
    ] in
    let counted = c.count_at-count.ensures.told in
    let told = c.upper_bound_at-bound.ensures.told in
    let count = told_buffer counted counted.through c.in_buffer-place.ensures.same c.in_buffer-place.ensures.size in
    let b = told_buffer told told.through (counted.through.same ∙ c.in_buffer-place.ensures.same) c.count_at-count.ensures.ready count in
    record {
      bound = b.0;
      there = λ low high rises. sym (none_before (pairs_of bytes c.args.page.now) (rank c.args.key.now) _ _ _ b.0 b.1 other low high rises);
    }

pub returns-clause-placed : goal.returns-clause-placed
returns-clause-placed c =
    let some = c.if-bound-eq0.false in
    let counted = c.count_at-count.ensures.told in
    let told = c.upper_bound_at-bound.ensures.told in
    let valued = c.value_at-value.ensures.told in
    let count = told_buffer counted counted.through c.in_buffer-place.ensures.same c.in_buffer-place.ensures.size in
    let b = told_buffer told told.through (counted.through.same ∙ c.in_buffer-place.ensures.same) c.count_at-count.ensures.ready count in
    let inside = b.0.inside in
    let there : c.upper_bound_at-bound.result.at - 1 < length (node_in c.args.page.now).entries = omega
    (arith, some, inside, length-pairs c.args.page.now) in
    let value = told_buffer valued valued.through (told.through.same
    ∙ (counted.through.same ∙ c.in_buffer-place.ensures.same)) c.upper_bound_at-bound.ensures.ready there in
    let key = b.1.before (c.upper_bound_at-bound.result.at - 1) (omega (arith, some)) ∙ c.same_key.ensures.rank.0 c.if-not-same_key.false in
    let read = values-at (c.upper_bound_at-bound.result.at - 1) (node_in c.args.page.now).entries there ∙ sym value in
    record { bound = b.0; there = (c.upper_bound_at-bound.result.at - 1, omega (arith, some), λ j. (key j, read j)) }
