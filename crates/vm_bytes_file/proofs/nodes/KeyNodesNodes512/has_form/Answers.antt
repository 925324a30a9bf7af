use Rattle.std.proofs.Common.{sym, ◌∙◌}
use Rattle.vm_node.proofs.Telling.{told_buffer}
use Rattle.vm_bytes_node.proofs.HeaderLemmas.{level_is}
use Rattle.vm_bytes_file.proofs.KeyNodeTests.{inner_form, leaf_form, no_form, other_level}
use Rattle.vm_bytes_file.proofs.nodes.KeyNodesNodes512.has_form.Goals as goal

pub returns-then-not-is_form : goal.returns-then-not-is_form
returns-then-not-is_form c = no_form c.args.page.now c.args.level (sym c.is_form.ensures ∙ c.if-not-is_form.true)

pub returns-then-get-level : goal.returns-then-get-level
returns-then-get-level c =
    other_level c.args.page.now c.args.level (sym c.is_form.ensures ∙ c.if-not-is_form.false)
    (λ is. c.if-get-level.true (c.get.ensures.word ∙ sym (level_is c.args.page.now) ∙ is))

pub returns-then-level-eq0 : goal.returns-then-level-eq0
returns-then-level-eq0 c =
    leaf_form c.args.page.now c.args.level (sym c.is_form.ensures ∙ c.if-not-is_form.false)
    (level_is c.args.page.now ∙ sym c.get.ensures.word ∙ c.if-get-level.false) c.if-level-eq0.true

pub returns : goal.returns
returns c =
    let told = c.count_at.ensures.told in
    let count = told_buffer told told.through c.in_buffer.ensures.same c.in_buffer.ensures.size in
    inner_form c.args.page.now c.args.level c.count_at.result (sym c.is_form.ensures ∙ c.if-not-is_form.false)
    (level_is c.args.page.now ∙ sym c.get.ensures.word ∙ c.if-get-level.false) c.if-level-eq0.false count
