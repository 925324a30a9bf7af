-- What the tree's calls that wait tell, with byte keys, in the terms of a worker: what its pass keeps, its entry, its note, or what it found.
use Rattle.std.proofs.Common.{◌∙◌, ◌≡◌, ap, Err, Ok, Result, sym}
use Rattle.vm_rule.specs.Prelude.{StartsWith}
use Rattle.vm_step.specs.Prelude.{Origin, View}
use Rattle.vm_tree_laws.specs.Plain.{KeepsPlain}
use Rattle.vm_bytes_form.specs.{Bytes.bytes, Strings.rank}
use Rattle.vm_bytes_node.specs.Room.{spare_words}
use Rattle.vm_bytes_laws.specs.declared.call.{KeyCall.KeyCall, KeyReply.KeyReply, KeySaid.KeySaid}
use Rattle.vm_bytes_laws.specs.declared.call.KeyCall.TheVariants.{Del, Get, Put, Swap, Window}
use Rattle.vm_bytes_laws.specs.Plain.{plain_said}
use Rattle.vm_calls.specs.from_vm_tree_rule.{declared_fault_TreeFault.TreeFault, Turns.IsDamaged, Turns.IsNeeded}
use Rattle.vm_calls.specs.from_vm_tree_read.Waiting.{Waits}
use Rattle.vm_calls.specs.from_vm_tree_split.Splits.{KeepsLocksOnly}
use Rattle.vm_calls.specs.from_vm_tree_round.Rounds.{IsPutRound, IsWriteRound}
use Rattle.vm_calls.specs.from_vm_tree_retry.Prelude.{HasKeyIn, HasValueIn}
use Rattle.vm_calls.specs.{Called.AreCalls, Called.IsCalled, Keeps.KeepsPass}
use Rattle.vm_calls.proofs.{Damage.damaged-untold, Keeping.all-pass, Keeping.waits-pass, Showing.of-leaf-more}
use Rattle.vm_calls.proofs.Telling.{answered-leaf, put-faulted, read-entered, read-faulted, read-replied, write-entered, write-faulted, write-replied}
use Rattle.vm_bytes_calls.specs.KeyCalls.{IsKeyCall, IsKeyShown, key_calls, key_said}

-- what the tree tells of a call in the terms of the pass
pub key-called : (call : KeyCall) (r : Result KeyReply TreeFault) (v w : View KeySaid) → IsKeyCall call r v w
    → KeepsPass v w × IsCalled key_calls call r v w
key-called (Get key) (Ok reply) v w t =
    (read-replied key_calls bytes _ v w t.0, (read-entered key_calls bytes (Get key) reply v w t.0, tt))
key-called (Get key) (Err fault) v w t = read-faulted key_calls bytes (Get key) (rank key) fault v w t
key-called (Put key value) (Ok reply) v w t = (
  write-replied key_calls bytes KeepsLocksOnly (IsPutRound plain_said bytes spare_words) all-pass _ v w t.0,
  (write-entered key_calls bytes KeepsLocksOnly (IsPutRound plain_said bytes spare_words) (Put key value) reply v w t.0, tt),
)
key-called (Put key value) (Err fault) v w t = put-faulted key_calls bytes spare_words (Put key value) (rank key) fault v w tt t
key-called (Del key) (Ok reply) v w t = (
  write-replied key_calls bytes Waits (IsWriteRound bytes) waits-pass _ v w t.0,
  (write-entered key_calls bytes Waits (IsWriteRound bytes) (Del key) reply v w t.0, tt),
)
key-called (Del key) (Err fault) v w t = write-faulted key_calls bytes Waits (IsWriteRound bytes) (IsNeeded bytes) (IsDamaged bytes)
    (HasKeyIn bytes) waits-pass (λ x y k. k.mine) (λ k p x y n. n.inside) (λ k p x y r d. damaged-untold bytes k p x y r d)
    (Del key) (rank key) fault v w t
key-called (Swap key want value) (Ok reply) v w t = (
  write-replied key_calls bytes Waits (IsWriteRound bytes) waits-pass _ v w t.0,
  (write-entered key_calls bytes Waits (IsWriteRound bytes) (Swap key want value) reply v w t.0, tt),
)
key-called (Swap key want value) (Err fault) v w t = write-faulted key_calls bytes Waits (IsWriteRound bytes) (IsNeeded bytes) (IsDamaged bytes)
    (λ words key. HasValueIn bytes words key want) waits-pass (λ x y k. k.mine) (λ k p x y n. n.inside)
    (λ k p x y r d. damaged-untold bytes k p x y r d) (Swap key want value) (rank key) fault v w t
key-called (Window start most) (Ok reply) v w t = (
  read-replied key_calls bytes _ v w t.0,
  (read-entered key_calls bytes (Window start most) reply v w t.0, answered-leaf key_calls bytes _ v w t.0),
)
key-called (Window start most) (Err fault) v w t = read-faulted key_calls bytes (Window start most) (rank start) fault v w t

-- what a window shows it shows in each later view of the pass
shown-more : (v w : View KeySaid) → w.start ≡ v.start → StartsWith w.seen v.seen → StartsWith w.releases v.releases
    → (c : KeyCall) (r : KeyReply) → IsKeyShown v c r → IsKeyShown w c r
shown-more v w start seen releases (Get key) r h = tt
shown-more v w start seen releases (Put key value) r h = tt
shown-more v w start seen releases (Del key) r h = tt
shown-more v w start seen releases (Swap key want value) r h = tt
shown-more v w start seen releases (Window from most) r h = λ told.
    of-leaf-more plain_said bytes (key_said (Window from most) r) v w start seen releases (h (ap (λ (o : Origin). o.tells) (sym start) ∙ told))

-- what is asked of a kind of calls holds of those with byte keys
pub key_laws : AreCalls key_calls (KeepsPlain plain_said bytes)
key_laws = record {
  called = key-called;
  shown = shown-more;
  legal = λ start kept k. k.legal;
}
