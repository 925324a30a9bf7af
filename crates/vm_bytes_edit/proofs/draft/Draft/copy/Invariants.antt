-- So far the pairs before this one have come.
use Rattle.std.proofs.Common.{◌≤◌, length}
use Rattle.vm_bytes_form.specs.Forms.{ByteNode, IsFitting, node_in}
use Rattle.vm_bytes_edit.specs.Drafts.{entries_between, IsDraft, IsInPage, with_more}
use Rattle.vm_bytes_edit.proofs.draft.Draft.copy.Given as goal

abbrev pub invariant-loop-i : goal.invariant-loop-i
invariant-loop-i l = record {
  fits : IsInPage l.self.count l.self.end;
  draft : (n : ByteNode) → IsDraft l.fn.self.page l.fn.self.count l.fn.self.end n
      → l.upto ≤ length (node_in l.page).entries → l.from ≤ l.upto
      → IsFitting 512 (with_more n (entries_between l.from l.upto (node_in l.page).entries))
      → IsDraft l.self.page l.self.count l.self.end (with_more n (entries_between l.from l.i (node_in l.page).entries));
}
