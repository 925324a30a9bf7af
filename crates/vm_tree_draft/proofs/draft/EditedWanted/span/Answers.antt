-- Words stay where the edit leaves them.
use Rattle.std.proofs.Common.{◌∙◌, ap, arith, List, slice_index, ℕ}
use Rattle.vm_tree_draft.proofs.draft.EditedWanted.span.Goals as goal

pub returns : goal.returns
returns g c = record {
  span = λ before made i two lt outside. made.1 i lt (λ e. omega (arith, two, e)) outside ∙ ap (λ (l : List ℕ). slice_index l i) made.0;
}
