-- What a del that merges no leaf leaves of the pass, and why it was made.
use Rattle.std.proofs.Common.{⊎_elim, ◌≡◌, ◌⊎◌, inl, inr, List, None, Some, subst, ℕ}
use Rattle.vm_map.specs.declared.call.Call.TheVariants.{Del}
use Rattle.vm_map.specs.declared.call.Reply.TheVariants.{Gone}
use Rattle.vm_map.specs.declared.call.Said.{Said}
use Rattle.vm_map.specs.Map.{del_pair, lookup_at, Rises}
use Rattle.vm_tree_model.specs.{Edits.IsLeafWith, Layout.Layout, Node.Covers}
use Rattle.vm_tree_model.specs.Page.{IsLeaf, node_of, pairs_of}
use Rattle.vm_tree_laws.specs.May.{IsEdit}
use Rattle.vm_tree_write.specs.from_vm_step.Prelude.{View}
use Rattle.vm_tree_write.specs.from_vm_tree_rule.Leaves.{ReadsOn}
use Rattle.vm_tree_write.specs.from_vm_tree_read.Reads.{IsAnswered}
use Rattle.vm_tree_write.proofs.from_vm_tree_read.Answering.{answered-as, answered-later}
use Rattle.vm_tree_write.specs.declared.write.TryWrite.TheVariants as tries
use Rattle.vm_tree_write.specs.Writes.{IsVain, IsWriteDone}
use Rattle.vm_tree_write.proofs.Writing.{written-later}
use Rattle.vm_tree_del.specs.Dels.{IsPlainDel}

-- the leaf without the pair of the key that it has is the del
pub del-edit : (L : Layout) (page after : List ℕ) (key was : ℕ) → Covers (node_of L page) key
    → ((low high : ℕ) → Rises low high (pairs_of L page) → Some was ≡ lookup_at (pairs_of L page) key)
    → (IsLeaf L page → IsLeafWith L page after (del_pair (pairs_of L page) key)) → IsLeaf L page
    → IsEdit L page after (Del key) (Gone (Some was))
del-edit L page after key was covers there dels leaf = (covers, there _ _ leaf.node.rises, dels leaf)

module _ {S : Type 0} (plain : S → Said) (L : Layout) where
  -- a del that was made, of what was read before
  pub del-made : (said : Said) (key was : ℕ) (v x w : View S) → said ≡ record { call = Del key; reply = Gone (Some was) }
      → ReadsOn v x → IsWriteDone plain L said x w → IsPlainDel plain L key (tries.Done (Gone (Some was))) v w
  del-made said key was v x w same reads a =
      inl (subst (λ (s : Said). IsWriteDone plain L s v w) same (written-later plain L said v x w reads a).0, λ none. none)

  pub del-none : (said : Said) (key : ℕ) (v x w : View S) → said ≡ record { call = Del key; reply = Gone None }
      → ReadsOn v x → IsAnswered plain L said x w → IsPlainDel plain L key (tries.Done (Gone None)) v w
  del-none said key v x w same reads a = inr (answered-later plain L _ v x w reads (answered-as plain L said _ x w same a), tt)

  -- an answered del leaves the pass its frames
  pub answer-leaves : (said : Said) (x w : View S) → (IsWriteDone plain L said x w × ¬ (IsVain said))
      ⊎ (IsAnswered plain L said x w × IsVain said) → (w.start ≡ x.start) × (w.frames ≡ x.frames)
  answer-leaves said x w a =
      ⊎_elim (λ (k : IsWriteDone plain L said x w × ¬ (IsVain said)). (k.0.writes.start, k.0.writes.frames.0))
      (λ (k : IsAnswered plain L said x w × IsVain said). (k.0.reads.start, k.0.reads.frames.0)) a
