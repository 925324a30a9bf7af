-- So far the first pairs have less than half.
use Rattle.std.proofs.Common.{◌≡◌, ◌+◌, ◌*◌, ◌≤◌, length, drop}
use Rattle.vm_tree_model.specs.Layout.{cut_from}
use Rattle.vm_tree_model.specs.Page.{pairs_of}
use Rattle.vm_bytes_form.specs.Bytes.{bytes}
use Rattle.vm_bytes_form.specs.Cuts.{pair_size}
use Rattle.vm_bytes_form.specs.Forms.{node_in}
use Rattle.vm_bytes_edit.proofs.halves.kept_of.Given as goal

abbrev pub invariant-loop-i : goal.invariant-loop-i
invariant-loop-i l = record {
  few : l.got ≤ 10 * l.i;
  cut : l.count ≡ length (node_in l.page).entries
      → cut_from pair_size 0 l.whole (pairs_of bytes l.page) ≡ l.i + cut_from pair_size l.got l.whole (drop l.i (pairs_of bytes l.page));
}
