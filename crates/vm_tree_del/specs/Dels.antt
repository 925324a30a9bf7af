-- What a del answers that merges no leaf.
use Rattle.std.specs.Prelude.{◌⊎◌, ℕ}
use Rattle.vm_map.specs.declared.call.Call.TheVariants.{Del}
use Rattle.vm_map.specs.declared.call.Said.{Said}
use Rattle.vm_tree_model.specs.Layout.{Layout}
use Rattle.vm_tree_write.specs.from_vm_step.Prelude.{UnlockedExpected, View}
use Rattle.vm_tree_write.specs.from_vm_tree_rule.{Leaves.ReadsOn, Shown.IsShown, Turns.IsDamaged, Turns.IsNeeded}
use Rattle.vm_tree_write.specs.from_vm_tree_read.Reads.{IsAnswered}
use Rattle.vm_tree_write.specs.declared.write.TryWrite.{TryWrite}
use Rattle.vm_tree_write.specs.declared.write.TryWrite.TheVariants as tries
use Rattle.vm_tree_write.specs.Writes.{HasKeyIn, IsVain, IsWornLeaf, IsWriteDone}

module _ {S : Type 0} (plain : S → Said) (L : Layout) where
  -- a try of a del in the leaf alone: made in a leaf that has the key, which may be at the last version; or answered by
  -- a validation of a leaf that has it not, which locks nothing, at whatever version.
  -- Without a reply the pass has no further entry, and locked nothing
  abbrev pub IsPlainDel : ℕ → TryWrite → View S → View S → Type 0
  IsPlainDel key (tries.Done reply) v w =
      (IsWriteDone plain L (record { call = Del key; reply = reply }) v w × ¬ (IsVain (record { call = Del key; reply = reply })))
      ⊎ (IsAnswered plain L (record { call = Del key; reply = reply }) v w × IsVain (record { call = Del key; reply = reply }))
  IsPlainDel key (tries.Again saw) v w = ReadsOn v w × IsShown UnlockedExpected v saw w
  IsPlainDel key (tries.Need p) v w = ReadsOn v w × IsNeeded L v key p w
  IsPlainDel key (tries.Worn p) v w = ReadsOn v w × (a : IsWornLeaf L v key p w) × HasKeyIn L a.words key
  IsPlainDel key (tries.Tight p) v w = ⊥
  IsPlainDel key (tries.Damaged p) v w = ReadsOn v w × IsDamaged L v key p w
