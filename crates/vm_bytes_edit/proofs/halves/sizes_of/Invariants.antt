-- So far the sizes of the first pairs are summed up.
use Rattle.std.proofs.Common.{◌≡◌, ◌*◌, ◌≤◌, length, take}
use Rattle.vm_tree_model.specs.Layout.{pairs_size}
use Rattle.vm_tree_model.specs.Page.{pairs_of}
use Rattle.vm_bytes_form.specs.Bytes.{bytes}
use Rattle.vm_bytes_form.specs.Cuts.{pair_size}
use Rattle.vm_bytes_form.specs.Forms.{node_in}
use Rattle.vm_bytes_edit.proofs.halves.sizes_of.Given as goal

abbrev pub invariant-loop-i : goal.invariant-loop-i
invariant-loop-i l = record {
  few : l.whole ≤ 10 * l.i;
  sizes : l.count ≤ length (node_in l.page).entries → l.whole ≡ pairs_size pair_size (take l.i (pairs_of bytes l.page));
}
