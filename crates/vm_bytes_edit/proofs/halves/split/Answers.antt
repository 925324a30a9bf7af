-- The halves fit, and the separator lies above the lowest key.
use Rattle.std.proofs.Common.{◌≡◌, length}
use Rattle.vm_node.proofs.Telling.{told_buffer}
use Rattle.vm_bytes_form.specs.Forms.{node_in}
use Rattle.vm_bytes_form.specs.Strings.{rank}
use Rattle.vm_bytes_edit.proofs.Splits.{lower_is, separator_is, split_inners, split_is, split_leaves, upper_is}
use Rattle.vm_bytes_edit.proofs.halves.split.Goals as goal

counted : (c : goal.After-upper_of) → c.count_at-count.result ≡ length (node_in c.args.page.now).entries
counted c = let told = c.count_at-count.ensures.told in told_buffer told told.through c.in_buffer.ensures.same c.in_buffer.ensures.size

pub returns-clause-separator : goal.returns-clause-separator
returns-clause-separator c = λ clean full. separator_is c.args.page.now c.first_from-separator.result c.lower_of.result c.upper_of.result
    c.kept_of-kept.result _
    (counted c) (c.kept_of-kept.ensures.kept (counted c)) c.first_from-separator.ensures clean full

pub returns-clause-form : goal.returns-clause-form
returns-clause-form c = λ clean full low high rises. (
  lower_is c.args.page.now c.first_from-separator.result c.lower_of.result c.upper_of.result c.kept_of-kept.result _
      (counted c) (c.kept_of-kept.ensures.kept (counted c)) c.first_from-separator.ensures clean full low high rises c.lower_of.ensures,
  upper_is c.args.page.now c.first_from-separator.result c.lower_of.result c.upper_of.result c.kept_of-kept.result _
      (counted c) (c.kept_of-kept.ensures.kept (counted c)) c.first_from-separator.ensures clean full low high rises c.upper_of.ensures,
)

pub returns-clause-halves : goal.returns-clause-halves
returns-clause-halves c = λ clean full low high rises. let forms = returns-clause-form c clean full low high rises in
    split_is c.args.page.now clean full c.first_from-separator.result (returns-clause-separator c clean full) low high rises _ _ forms.0
    forms.1

pub returns-clause-leaves : goal.returns-clause-leaves
returns-clause-leaves c = λ leaf full. split_leaves c.args.page.now _ _ (rank c.first_from-separator.result) full
    (returns-clause-halves c leaf.clean full _ _ leaf.node.rises) leaf

pub returns-clause-inners : goal.returns-clause-inners
returns-clause-inners c = λ inner full. split_inners c.args.page.now _ _ (rank c.first_from-separator.result) full
    (returns-clause-halves c inner.clean full _ _ inner.node.rises) inner
