-- What the tree's calls leave of a worker's pass.
use Rattle.std.proofs.Common.{[], ◌∙◌, ◌≡◌, List, sym, ℕ}
use Rattle.vm_rule.specs.Prelude.{StartsWith}
use Rattle.vm_rule.proofs.Entries.{append-none}
use Rattle.vm_step.specs.Prelude.{View}
use Rattle.vm_tree_range.specs.from_vm_tree_rule.Leaves.{OnlyReads}
use Rattle.vm_tree_range.specs.from_vm_tree_read.Waiting.{Waits}
use Rattle.vm_tree_range.specs.Ranges.{HoldsOn}
use Rattle.vm_tree_retry.specs.from_vm_tree_split.{Splits.KeepsLocksOnly}
use Rattle.vm_tree_retry.specs.from_vm_tree_join.Made.{HoldsAll}
use Rattle.vm_tree_retry.specs.Prelude.{OnlyWrites}
use Rattle.vm_calls.specs.Keeps.{KeepsPass}

pub same-front : {A : Type 0} (l m : List A) → l ≡ m → StartsWith l m
same-front l m e = ([], e ∙ sym (append-none m))

module _ {X : Type 0} where
  pub waits-pass : (v w : View X) → Waits v w → KeepsPass v w
  waits-pass v w k = record {
    holds = k.holds;
    out = k.out;
    start = k.start;
    parts = k.parts;
    seen = k.seen;
    releases = k.releases;
    notes = k.notes;
    log = k.log;
  }

  pub reads-pass : (v w : View X) → OnlyReads v w → KeepsPass v w
  reads-pass v w r = record {
    holds = r.holds;
    out = r.out;
    start = r.start;
    parts = r.parts;
    seen = r.seen;
    releases = r.releases;
    notes = same-front w.notes v.notes r.notes;
    log = (r.done, r.log);
  }

  pub writes-pass : (p : ℕ) (v w : View X) → OnlyWrites p v w → KeepsPass v w
  writes-pass p v w r = record {
    holds = r.holds;
    out = r.out;
    start = r.start;
    parts = r.parts;
    seen = r.seen;
    releases = r.releases;
    notes = same-front w.notes v.notes r.notes;
    log = (r.done, r.log);
  }

  pub merge-pass : (v w : View X) → HoldsAll v w → KeepsPass v w
  merge-pass v w r = record {
    holds = r.holds;
    out = r.out;
    start = r.start;
    parts = r.parts;
    seen = r.seen;
    releases = r.releases;
    notes = same-front w.notes v.notes r.notes;
    log = r.log;
  }

  pub on-pass : (v w : View X) → HoldsOn v w → KeepsPass v w
  on-pass v w k = record {
    holds = k.holds;
    out = k.out;
    start = k.start;
    parts = k.parts;
    seen = k.seen;
    releases = k.releases;
    notes = same-front w.notes v.notes k.notes;
    log = k.log;
  }

pub all-pass : {X : Type 0} (v w : View X) → KeepsLocksOnly v w → KeepsPass v w
all-pass v w k = record {
  holds = k.holds;
  out = k.out;
  start = k.start;
  parts = k.parts;
  seen = k.seen;
  releases = k.releases;
  notes = k.notes;
  log = k.log;
}
