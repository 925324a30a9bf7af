-- What the tree's calls that wait tell, with words as keys, in the terms of a worker: what its pass keeps, its entry, its note, or what it found.
use Rattle.std.specs.Prelude.{IfErr, IfOk}
use Rattle.std.proofs.Common.{⊎_elim, ◌⊎◌, Err, List, Ok, Result, ℕ}
use Rattle.vm_map.specs.{declared.call.Call.Call, declared.call.Reply.Reply, declared.call.Said.Said}
use Rattle.vm_map.specs.declared.window.Bound.{Bound}
use Rattle.vm_map.specs.declared.call.Call.TheVariants.{Del, Get, Put, Range, Swap, Window}
use Rattle.vm_step.specs.Prelude.{View}
use Rattle.vm_tree_model.specs.{Fixed.fixed, Layout.Layout}
use Rattle.vm_tree_laws.specs.Plain.{KeepsPlain}
use Rattle.vm_tree_range.specs.from_vm_tree_rule.{declared_fault_TreeFault.TreeFault, Leaves.ReadsOn, Turns.IsDamaged, Turns.IsNeeded}
use Rattle.vm_tree_range.specs.from_vm_tree_read.Reads.{IsAnswered, IsOfKind}
use Rattle.vm_tree_range.specs.from_vm_tree_read.Waiting.{IsFaulted as IsReadFaulted, IsReplied as IsReadReplied, Waits}
use Rattle.vm_tree_range.specs.Ranges.{IsRangeFaulted, IsRangeReplied}
use Rattle.vm_tree_retry.specs.from_vm_tree_split.Splits.{KeepsLocksOnly}
use Rattle.vm_tree_retry.specs.Prelude.{IsDamagedBeside, IsMergeDone}
use Rattle.vm_tree_retry.proofs.from_vm_tree_round.Deleting.{needed-inside}
use Rattle.vm_tree_retry.specs.from_vm_tree_round.Rounds.{IsDamagedForDel, IsDelRound, IsNeededByDel, IsPutRound, IsWriteRound}
use Rattle.vm_tree_retry.specs.Waiting.{IsDelReplied, IsPutFaulted, IsWriteFaulted, IsWriteReplied}
use Rattle.vm_tree_retry.specs.Prelude.{HasKeyIn, IsDelAlone, HasValueIn, IsVain}
use Rattle.vm_tree_range.specs.from_vm_kind.WordRoom.{spare_in}
use Rattle.vm_calls.specs.{Called.AreCalls, Called.IsCalled, Keeps.KeepsPass, Causes.IsUntold}
use Rattle.vm_calls.proofs.Doing.{keeps-then}
use Rattle.vm_calls.specs.{Calls.as_said, TreeCalls.IsTreeCall, TreeCalls.word_calls}
use Rattle.vm_calls.proofs.Keeping.{all-pass, merge-pass, reads-pass, waits-pass, writes-pass}
use Rattle.vm_calls.proofs.Damage.{beside-untold, damaged-untold}
use Rattle.vm_calls.proofs.{Plainly.plain-keeps, Showing.shown-more, Spanning.range-called, Spanning.range-faulted}
use Rattle.vm_calls.proofs.Telling.{answered-leaf, put-faulted, read-entered, read-faulted, read-replied, write-entered, write-faulted, write-replied}

module _ (size : ℕ) where
  abbrev L : Layout
  L = fixed size

  abbrev spare : List ℕ → ℕ
  spare = spare_in size

  -- a del made in its leaf alone, or with a merge, or answered by a read
  pub del-replied : (key : ℕ) (reply : Reply) (v w : View Said) → IsDelReplied as_said L key reply v w → KeepsPass v w
  del-replied key reply v w r =
      let said : Said = record { call = Del key; reply = reply } in
      keeps-then v r.tried w (all-pass v r.tried r.waits)
      (⊎_elim
      (λ (k : (IsDelAlone as_said L key said r.tried w ⊎ IsMergeDone as_said L key said r.tried w) × ¬ (IsVain said)).
      ⊎_elim
      (λ (a : IsDelAlone as_said L key said r.tried w). writes-pass a.write.page r.tried w a.write.writes)
      (λ (m : IsMergeDone as_said L key said r.tried w).
      keeps-then r.tried m.found w (reads-pass r.tried m.found m.earlier.0) (merge-pass m.found w m.made.holds))
      k.0)
      (λ (k : IsAnswered as_said L said r.tried w × IsVain said). reads-pass r.tried w k.0.reads)
      r.answered)

  -- ---- answers

  -- what the contract of each call says, of the reply and of the fault
  pub get-tells : (key : ℕ) (r : Result Reply TreeFault) (v w : View Said)
      → IfOk r (λ reply. IsReadReplied as_said L (record {
        call = Get key;
        reply = reply;
      }) v w) → IfOk r (λ reply. IsOfKind (Get key) reply) → IfErr r (λ fault. IsReadFaulted L key fault v w)
      → IsTreeCall size (Get key) r v w
  get-tells key (Ok reply) v w ok kind err = (ok, kind)
  get-tells key (Err fault) v w ok kind err = err

  pub window-tells : (start most : ℕ) (r : Result Reply TreeFault) (v w : View Said)
      → IfOk r (λ reply. IsReadReplied as_said L (record {
        call = Window start most;
        reply = reply;
      }) v w) → IfOk r (λ reply. IsOfKind (Window start most) reply)
      → IfErr r (λ fault. IsReadFaulted L start fault v w) → IsTreeCall size (Window start most) r v w
  window-tells start most (Ok reply) v w ok kind err = (ok, kind)
  window-tells start most (Err fault) v w ok kind err = err

  pub put-tells : (key value : ℕ) (r : Result Reply TreeFault) (v w : View Said)
      → IfOk r (λ reply. IsWriteReplied as_said L KeepsLocksOnly (IsPutRound as_said L spare) (record {
        call = Put key value;
        reply = reply;
      }) v w) → IfOk r (λ reply. IsOfKind (Put key value) reply)
      → IfErr r (λ fault. IsPutFaulted as_said L spare key fault v w) → IsTreeCall size (Put key value) r v w
  put-tells key value (Ok reply) v w ok kind err = (ok, kind)
  put-tells key value (Err fault) v w ok kind err = err

  pub del-tells : (key : ℕ) (r : Result Reply TreeFault) (v w : View Said)
      → IfOk r (λ reply. IsDelReplied as_said L key reply v w) → IfOk r (λ reply. IsOfKind (Del key) reply)
      → IfErr r (λ fault. IsWriteFaulted L KeepsLocksOnly (IsDelRound L) (IsNeededByDel L) (IsDamagedForDel L) (HasKeyIn L) key fault v w)
      → IsTreeCall size (Del key) r v w
  del-tells key (Ok reply) v w ok kind err = (ok, kind)
  del-tells key (Err fault) v w ok kind err = err

  pub swap-tells : (key want value : ℕ) (r : Result Reply TreeFault) (v w : View Said)
      → IfOk r (λ reply. IsWriteReplied as_said L Waits (IsWriteRound L) (record {
        call = Swap key want value;
        reply = reply;
      }) v w) → IfOk r (λ reply. IsOfKind (Swap key want value) reply)
      → IfErr r (λ fault. IsWriteFaulted L Waits (IsWriteRound L) (IsNeeded L) (IsDamaged L)
      (λ words key. HasValueIn L words key want) key fault v w) → IsTreeCall size (Swap key want value) r v w
  swap-tells key want value (Ok reply) v w ok kind err = (ok, kind)
  swap-tells key want value (Err fault) v w ok kind err = err

  pub range-tells : (low : ℕ) (bound : Bound) (r : Result Reply TreeFault) (v w : View Said)
      → IfOk r (λ reply. IsRangeReplied as_said L (record {
        call = Range low bound;
        reply = reply;
      }) v w) → IfOk r (λ reply. IsOfKind (Range low bound) reply)
      → IfErr r (λ fault. IsRangeFaulted L low bound fault v w) → IsTreeCall size (Range low bound) r v w
  range-tells low bound (Ok reply) v w ok kind err = (ok, kind)
  range-tells low bound (Err fault) v w ok kind err = err

  del-untold : (key p : ℕ) (v w : View Said) → ReadsOn v w → IsDamagedForDel L v key p w → IsUntold w p
  del-untold key p v w reads bad =
      ⊎_elim (λ (d : IsDamaged L v key p w). damaged-untold L key p v w reads d)
      (λ (d : IsDamagedBeside L v key p w). beside-untold L key p v w reads d) bad

  -- what the tree tells of a call in the terms of the pass
  pub tree-called : (call : Call) (r : Result Reply TreeFault) (v w : View Said) → IsTreeCall size call r v w
      → KeepsPass v w × IsCalled (word_calls size) call r v w
  tree-called (Get key) (Ok reply) v w t =
      (read-replied (word_calls size) L _ v w t.0, (read-entered (word_calls size) L (Get key) reply v w t.0, tt))
  tree-called (Get key) (Err fault) v w t = read-faulted (word_calls size) L (Get key) key fault v w t
  tree-called (Put key value) (Ok reply) v w t = (
    write-replied (word_calls size) L KeepsLocksOnly (IsPutRound as_said L spare) all-pass _ v w t.0,
    (write-entered (word_calls size) L KeepsLocksOnly (IsPutRound as_said L spare) (Put key value) reply v w t.0, tt),
  )
  tree-called (Put key value) (Err fault) v w t = put-faulted (word_calls size) L spare (Put key value) key fault v w tt t
  tree-called (Del key) (Ok reply) v w t =
      (del-replied key reply v w t.0, (record { says = t.0.says; says_is = t.0.says_is; mine = t.0.mine }, tt))
  tree-called (Del key) (Err fault) v w t = write-faulted (word_calls size) L KeepsLocksOnly (IsDelRound L) (IsNeededByDel L)
      (IsDamagedForDel L) (HasKeyIn L) all-pass (λ x y k. k.mine) (λ k p x y n. needed-inside L k p x y n) del-untold
      (Del key) key fault v w t
  tree-called (Swap key want value) (Ok reply) v w t = (
    write-replied (word_calls size) L Waits (IsWriteRound L) waits-pass _ v w t.0,
    (write-entered (word_calls size) L Waits (IsWriteRound L) (Swap key want value) reply v w t.0, tt),
  )
  tree-called (Swap key want value) (Err fault) v w t = write-faulted (word_calls size) L Waits (IsWriteRound L) (IsNeeded L) (IsDamaged L)
      (λ words key. HasValueIn L words key want) waits-pass (λ x y k. k.mine) (λ k p x y n. n.inside)
      (λ k p x y r d. damaged-untold L k p x y r d)
      (Swap key want value) key fault v w t
  tree-called (Range low bound) (Ok reply) v w t = range-called size low bound reply v w t.0
  tree-called (Range low bound) (Err fault) v w t = range-faulted size (Range low bound) low bound fault v w t
  tree-called (Window start most) (Ok reply) v w t = (
    read-replied (word_calls size) L _ v w t.0,
    (read-entered (word_calls size) L (Window start most) reply v w t.0, answered-leaf (word_calls size) L _ v w t.0),
  )
  tree-called (Window start most) (Err fault) v w t = read-faulted (word_calls size) L (Window start most) start fault v w t

-- what is asked of a kind of calls holds of those with words as keys
pub word_laws : (size : ℕ) → AreCalls (word_calls size) (KeepsPlain as_said (fixed size))
word_laws size = record {
  called = tree-called size;
  shown = shown-more size;
  legal = λ start kept k. (plain-keeps (fixed size) _ kept k).legal;
}
