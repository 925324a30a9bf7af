-- A worker's calls of the tree with words as keys: what each tells is of this call alone, between what the pass knew
-- before it and behind it.
use Rattle.std.specs.Prelude.{Err, Ok, Result, ℕ}
use Rattle.vm_map.specs.{declared.call.Call.Call, declared.call.Reply.Reply, declared.call.Said.Said}
use Rattle.vm_map.specs.declared.call.Call.TheVariants.{Del, Get, Put, Range, Swap, Window}
use Rattle.vm_tree_model.specs.{Fixed.fixed, Tree.map_of}
use Rattle.vm_tree_laws.specs.History.{IsLegal}
use Rattle.vm_calls.specs.Calling.{Calling}
use Rattle.vm_calls.specs.{Calls.as_said, Calls.IsPutCall, Calls.word_said, Shows.IsReplyShown}
use Rattle.vm_tree_range.specs.from_vm_kind.WordRoom.{spare_in}
use Rattle.vm_step.specs.Prelude.{View}
use Rattle.vm_tree_range.specs.from_vm_tree_rule.{declared_fault_TreeFault.TreeFault, Turns.IsDamaged, Turns.IsNeeded}
use Rattle.vm_tree_range.specs.from_vm_tree_read.Reads.{IsOfKind}
use Rattle.vm_tree_range.specs.from_vm_tree_read.Waiting.{IsFaulted, IsReplied, Waits}
use Rattle.vm_tree_range.specs.Ranges.{IsRangeFaulted, IsRangeReplied}
use Rattle.vm_tree_retry.specs.from_vm_tree_split.Splits.{KeepsLocksOnly}
use Rattle.vm_tree_retry.specs.from_vm_tree_round.Rounds.{IsDamagedForDel, IsDelRound, IsNeededByDel, IsPutRound}
use Rattle.vm_tree_retry.specs.Waiting.{IsDelReplied, IsPutFaulted}
use Rattle.vm_tree_retry.specs.from_vm_tree_round.Rounds.{IsWriteRound}
use Rattle.vm_tree_retry.specs.Waiting.{IsWriteFaulted, IsWriteReplied}
use Rattle.vm_tree_retry.specs.Prelude.{HasKeyIn, HasValueIn}

-- All that the tree, on pages of n words, tells of a call that was answered so. A reply is one to such a call, and
-- became the pass's next entry,
-- behind what it had seen; behind the entry of a del that merged the pass may have seen others'. A fault comes of
-- what this very call did: a page that it was to bring, a leaf that it reached, or a split that it tried
abbrev pub IsTreeCall : ℕ → Call → Result Reply TreeFault → View Said → View Said → Type 0
IsTreeCall n (Get key) (Ok reply) v w =
    IsReplied as_said (fixed n) (record { call = Get key; reply = reply }) v w × IsOfKind (Get key) reply
IsTreeCall n (Get key) (Err fault) v w = IsFaulted (fixed n) key fault v w
IsTreeCall n (Put key value) (Ok reply) v w = IsWriteReplied as_said (fixed n) KeepsLocksOnly
    (IsPutRound as_said (fixed n) (spare_in n)) (record {
      call = Put key value;
      reply = reply;
    }) v w × IsOfKind (Put key value) reply
IsTreeCall n (Put key value) (Err fault) v w = IsPutFaulted as_said (fixed n) (spare_in n) key fault v w
IsTreeCall n (Del key) (Ok reply) v w = IsDelReplied as_said (fixed n) key reply v w × IsOfKind (Del key) reply
IsTreeCall n (Del key) (Err fault) v w = IsWriteFaulted (fixed n) KeepsLocksOnly (IsDelRound (fixed n))
    (IsNeededByDel (fixed n)) (IsDamagedForDel (fixed n)) (HasKeyIn (fixed n)) key fault v w
IsTreeCall n (Window start most) (Ok reply) v w = IsReplied as_said (fixed n) (record {
  call = Window start most;
  reply = reply;
}) v w × IsOfKind (Window start most) reply
IsTreeCall n (Window start most) (Err fault) v w = IsFaulted (fixed n) start fault v w
IsTreeCall n (Swap key want value) (Ok reply) v w = IsWriteReplied as_said (fixed n) Waits (IsWriteRound (fixed n))
    (record { call = Swap key want value; reply = reply }) v w × IsOfKind (Swap key want value) reply
IsTreeCall n (Swap key want value) (Err fault) v w = IsWriteFaulted (fixed n) Waits (IsWriteRound (fixed n))
    (IsNeeded (fixed n)) (IsDamaged (fixed n)) (λ words key. HasValueIn (fixed n) words key want) key fault v w
IsTreeCall n (Range low bound) (Ok reply) v w = IsRangeReplied as_said (fixed n) (record {
  call = Range low bound;
  reply = reply;
}) v w × IsOfKind (Range low bound) reply
IsTreeCall n (Range low bound) (Err fault) v w = IsRangeFaulted (fixed n) low bound fault v w

-- the kind of calls that are made on the tree with words as keys, on pages of n words
abbrev pub word_calls : ℕ → Calling Said Call Reply Said
word_calls n = record {
  plain = as_said;
  said = word_said;
  may_fill = IsPutCall;
  tells = IsTreeCall n;
  shows = IsReplyShown n;
  legal = λ start history. IsLegal (map_of (fixed n) start.contents) history;
}
