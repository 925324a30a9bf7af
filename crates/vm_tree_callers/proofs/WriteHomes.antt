-- Whatever a write of the tree answers, the pass has its block at home as before; and a try asks for no frame.
use Rattle.std.proofs.Common.{⊎_elim, ◌≡◌, Err, IfErr, IfOk, List, Ok, Result, ℕ}
use Rattle.vm_map.specs.{declared.call.Call.Call, declared.call.Reply.Reply, declared.call.Said.Said}
use Rattle.vm_tree_model.specs.Layout.{Layout}
use Rattle.vm_step.specs.Prelude.{View}
use Rattle.vm_tree_retry.specs.from_vm_tree_rule.{declared_fault_TreeFault.TreeFault, Turns.IsDamaged, Turns.IsNeeded}
use Rattle.vm_tree_retry.specs.from_vm_tree_read.Waiting.{Waits}
use Rattle.vm_tree_retry.specs.from_vm_tree_split.{Splits.KeepsLocksOnly}
use Rattle.vm_tree_retry.specs.from_vm_tree_write.{declared_write_TryWrite.TryWrite}
use Rattle.vm_tree_retry.specs.from_vm_tree_write.declared_write_TryWrite_TheVariants as writes
use Rattle.vm_tree_retry.specs.from_vm_tree_round.Rounds.{IsDamagedForDel, IsDelRound, IsNeededByDel, IsPutRound}
use Rattle.vm_tree_retry.specs.Waiting.{IsDelReplied, IsPutFaulted}
use Rattle.vm_tree_retry.specs.from_vm_tree_round.Rounds.{IsWriteRound}
use Rattle.vm_tree_retry.specs.Waiting.{IsWriteFaulted, IsWriteReplied}
use Rattle.vm_tree_retry.specs.from_vm_tree_write.Writes.{HasKeyIn, IsDel, IsPut, IsSwap, OnlyWrites}
use Rattle.vm_tree_retry.proofs.from_vm_tree_round.Deleting.{again-frames, again-keeps, answer-frames}
use Rattle.vm_tree_retry.proofs.Deleting.{answer-out}
use Rattle.vm_tree_callers.proofs.Homes.{of-reads, Rests}

of-writes : {X : Type 0} (p : ℕ) (v w : View X) → OnlyWrites p v w → Rests v w
of-writes p v w r = record { out = r.out; start = r.start; frames = r.frames.0 }

-- What is said may speak of keys in its own way; `plain` reads it with a number for each key
module _ {S : Type 0} (plain : S → Said) (L : Layout) where
  pub del-rests : (key : ℕ) (t : TryWrite) (v w : View S) → IsDel plain L key t v w → Rests v w
  del-rests key (writes.Done reply) v w a = let k = answer-frames plain L key reply v w a in record {
    out = answer-out plain L key reply v w a;
    start = k.0;
    frames = k.1;
  }
  del-rests key (writes.Again saw) v w a = let k = again-frames L key saw v w a in record {
    out = (again-keeps L key saw v w a).out;
    start = k.0;
    frames = k.1;
  }
  del-rests key (writes.Need p) v w a = of-reads v w a.0.0
  del-rests key (writes.Worn p) v w a = of-reads v w a.0.0
  del-rests key (writes.Damaged p) v w a = of-reads v w a.0.0
  del-rests key (writes.Tight p) v w a = absurd a

  pub swap-rests : (key want value : ℕ) (t : TryWrite) (v w : View S) → IsSwap plain L key want value t v w → Rests v w
  swap-rests key want value (writes.Done reply) v w a = ⊎_elim (λ b. of-writes b.0.page v w b.0.writes) (λ b. of-reads v w b.0.reads) a
  swap-rests key want value (writes.Again saw) v w a = of-reads v w a.0.0
  swap-rests key want value (writes.Need p) v w a = of-reads v w a.0.0
  swap-rests key want value (writes.Worn p) v w a = of-reads v w a.0.0
  swap-rests key want value (writes.Damaged p) v w a = of-reads v w a.0.0
  swap-rests key want value (writes.Tight p) v w a = absurd a

  pub del-home : (key : ℕ) (r : Result Reply TreeFault) (v w : View S)
      → IfOk r (λ reply. IsDelReplied plain L key reply v w)
      → IfErr r (λ fault. IsWriteFaulted L KeepsLocksOnly (IsDelRound L) (IsNeededByDel L) (IsDamagedForDel L) (HasKeyIn L) key fault v w)
      → w.out ≡ v.out
  del-home key (Ok reply) v w a b = a.out
  del-home key (Err fault) v w a b = b.leaves.out

  pub swap-home : (may : List ℕ → ℕ → Type 0) (call : Call) (key : ℕ) (r : Result Reply TreeFault) (v w : View S)
      → IfOk r (λ reply. IsWriteReplied plain L Waits (IsWriteRound L) (record {
        call = call;
        reply = reply;
      }) v w) → IfErr r (λ fault. IsWriteFaulted L Waits (IsWriteRound L) (IsNeeded L) (IsDamaged L) may key fault v w) → w.out ≡ v.out
  swap-home may call key (Ok reply) v w a b = a.out
  swap-home may call key (Err fault) v w a b = b.leaves.out

  module _ (spare : List ℕ → ℕ) where
    pub put-rests : (key value : ℕ) (t : TryWrite) (v w : View S) → IsPut plain L spare key value t v w → Rests v w
    put-rests key value (writes.Done reply) v w a = of-writes a.0.page v w a.0.writes
    put-rests key value (writes.Again saw) v w a = of-reads v w a.0.0
    put-rests key value (writes.Need p) v w a = of-reads v w a.0.0
    put-rests key value (writes.Worn p) v w a = of-reads v w a.0.0
    put-rests key value (writes.Tight p) v w a = of-reads v w a.0.0
    put-rests key value (writes.Damaged p) v w a = of-reads v w a.0.0

    pub put-home : (call : Call) (key : ℕ) (r : Result Reply TreeFault) (v w : View S)
        → IfOk r (λ reply. IsWriteReplied plain L KeepsLocksOnly (IsPutRound plain L spare) (record {
          call = call;
          reply = reply;
        }) v w) → IfErr r (λ fault. IsPutFaulted plain L spare key fault v w) → w.out ≡ v.out
    put-home call key (Ok reply) v w a b = a.out
    put-home call key (Err fault) v w a b = b.leaves.out
