-- What an answered write and a page brought leave of the pass.
use Rattle.std.proofs.Common.{⊎_elim, inl, ◌∙◌, ◌≡◌, ◌⊎◌, sym}
use Rattle.vm_map.specs.declared.call.Said.{Said}
use Rattle.vm_tree_model.specs.{Layout.Layout}
use Rattle.vm_tree_write.specs.from_vm_step.Prelude.{View}
use Rattle.vm_tree_write.specs.from_vm_pool.Brings.{KeepsLocks}
use Rattle.vm_tree_write.specs.from_vm_tree_read.{Reads.IsAnswered}
use Rattle.vm_tree_write.specs.from_vm_tree_read.{Waiting.Waits}
use Rattle.vm_tree_write.specs.from_vm_tree_split.{Splits.KeepsLocksOnly}
use Rattle.vm_tree_write.specs.{Writes.IsVain, Writes.IsWriteDone}
use Rattle.vm_tree_write.proofs.from_vm_tree_split.{Framing.keeps-then, Numbering.worn-kept}

module _ {S : Type 0} (plain : S → Said) (L : Layout) where
  pub write-frames : (said : Said) (x w : View S) → (IsWriteDone plain L said x w × ¬ (IsVain said))
      ⊎ (IsAnswered plain L said x w × IsVain said) → (w.start ≡ x.start) × (w.frames ≡ x.frames)
  write-frames said x w a =
      ⊎_elim (λ (k : IsWriteDone plain L said x w × ¬ (IsVain said)). (k.0.writes.start, k.0.writes.frames.0))
      (λ (k : IsAnswered plain L said x w × IsVain said). (k.0.reads.start, k.0.reads.frames.0)) a

module _ {X : Type 0} where
  pub waits-keep : (v x : View X) → Waits v x → KeepsLocksOnly v x
  waits-keep v x k = record {
    start = k.start;
    parts = k.parts;
    mine = k.mine;
    seen = k.seen;
    releases = k.releases;
    notes = k.notes;
    log = k.log;
    out = k.out;
    pending = k.group.0;
    owed = k.group.1;
    numbers = worn-kept v x k.numbers;
    next = λ q e. inl (sym k.group.2 ∙ e);
    holds = k.holds;
    knows = k.knows;
    current = k.alone.current;
  }

  -- a sweep after a try
  pub sweep-keeps : (v x w : View X) → KeepsLocksOnly v x → KeepsLocks x w → KeepsLocksOnly v w
  sweep-keeps v x w k locks = keeps-then v x w k (waits-keep x w locks)
