-- A worker's calls of the tree with byte keys: what each tells is of this call alone, between what the pass knew before
-- it and behind it. It tells of the rank of each key.
use Rattle.std.specs.Prelude.{◌≡◌, ◌≤◌, Err, Ok, Result, true}
use Rattle.vm_map.specs.declared.call.{Reply.Reply, Said.Said}
use Rattle.vm_map.specs.declared.call.Reply.TheVariants as plain
use Rattle.vm_tree_model.specs.Tree.{map_of}
use Rattle.vm_step.specs.Prelude.{View}
use Rattle.vm_tree_laws.specs.{History.IsLegal, Plain.plain_history}
use Rattle.vm_bytes_form.specs.{Bytes.bytes, Strings.rank}
use Rattle.vm_bytes_node.specs.Room.{spare_words}
use Rattle.vm_bytes_laws.specs.declared.call.{KeyCall.KeyCall, KeyReply.KeyReply, KeySaid.KeySaid}
use Rattle.vm_bytes_laws.specs.declared.call.KeyCall.TheVariants.{Del, Get, Put, Swap, Window}
use Rattle.vm_bytes_laws.specs.declared.call.KeyReply.TheVariants.{Gone, Got, Swapped, Was, Win}
use Rattle.vm_bytes_laws.specs.Plain.{plain_call, plain_reply, plain_said}
use Rattle.vm_calls.specs.from_vm_tree_rule.{declared_fault_TreeFault.TreeFault, Turns.IsDamaged, Turns.IsNeeded}
use Rattle.vm_calls.specs.from_vm_tree_read.Waiting.{IsFaulted, IsReplied, Waits}
use Rattle.vm_calls.specs.from_vm_tree_split.Splits.{KeepsLocksOnly}
use Rattle.vm_calls.specs.from_vm_tree_round.Rounds.{IsPutRound, IsWriteRound}
use Rattle.vm_calls.specs.from_vm_tree_retry.Waiting.{IsPutFaulted, IsWriteFaulted, IsWriteReplied}
use Rattle.vm_calls.specs.from_vm_tree_retry.Prelude.{HasKeyIn, HasValueIn}
use Rattle.vm_calls.specs.Calling.{Calling}
use Rattle.vm_calls.specs.Shows.{IsOfLeaf}

-- a call with its reply, read with the rank of each key
abbrev pub key_said : KeyCall → KeyReply → Said
key_said call reply = record { call = plain_call call; reply = plain_reply reply }

-- the reply is one to such a call
abbrev pub IsKeyReplyTo : KeyCall → KeyReply → Type 0
IsKeyReplyTo (Get key) (Got found) = Unit {0}
IsKeyReplyTo (Put key value) (Was old) = Unit {0}
IsKeyReplyTo (Del key) (Gone old) = Unit {0}
IsKeyReplyTo (Window start most) (Win window) = Unit {0}
IsKeyReplyTo (Swap key want value) (Swapped outcome) = Unit {0}
IsKeyReplyTo _ _ = ⊥

-- the call is a put
abbrev pub IsKeyPut : KeyCall → Type 0
IsKeyPut (Get key) = ⊥
IsKeyPut (Put key value) = Unit {0}
IsKeyPut (Del key) = ⊥
IsKeyPut (Window start most) = ⊥
IsKeyPut (Swap key want value) = ⊥

-- a window is asked for at least one pair
abbrev pub IsKeyAskable : KeyCall → Type 0
IsKeyAskable (Get key) = Unit {0}
IsKeyAskable (Put key value) = Unit {0}
IsKeyAskable (Del key) = Unit {0}
IsKeyAskable (Window start most) = 1 ≤ most
IsKeyAskable (Swap key want value) = Unit {0}

-- All that the tree tells of a call that was answered so. A reply is one to such a call, and became the pass's next entry, behind what it had seen.
-- A fault comes of what this very call did: a page that it was to bring, a leaf that it reached, or a split that it tried
abbrev pub IsKeyCall : KeyCall → Result KeyReply TreeFault → View KeySaid → View KeySaid → Type 0
IsKeyCall (Get key) (Ok reply) v w = IsReplied plain_said bytes (key_said (Get key) reply) v w × IsKeyReplyTo (Get key) reply
IsKeyCall (Get key) (Err fault) v w = IsFaulted bytes (rank key) fault v w
IsKeyCall (Put key value) (Ok reply) v w =
    IsWriteReplied plain_said bytes KeepsLocksOnly (IsPutRound plain_said bytes spare_words) (key_said (Put key value) reply) v w
    × IsKeyReplyTo (Put key value) reply
IsKeyCall (Put key value) (Err fault) v w = IsPutFaulted plain_said bytes spare_words (rank key) fault v w
IsKeyCall (Del key) (Ok reply) v w =
    IsWriteReplied plain_said bytes Waits (IsWriteRound bytes) (key_said (Del key) reply) v w × IsKeyReplyTo (Del key) reply
IsKeyCall (Del key) (Err fault) v w =
    IsWriteFaulted bytes Waits (IsWriteRound bytes) (IsNeeded bytes) (IsDamaged bytes) (HasKeyIn bytes) (rank key) fault v w
IsKeyCall (Window start most) (Ok reply) v w =
    IsReplied plain_said bytes (key_said (Window start most) reply) v w × IsKeyReplyTo (Window start most) reply
IsKeyCall (Window start most) (Err fault) v w = IsFaulted bytes (rank start) fault v w
IsKeyCall (Swap key want value) (Ok reply) v w =
    IsWriteReplied plain_said bytes Waits (IsWriteRound bytes) (key_said (Swap key want value) reply) v w
    × IsKeyReplyTo (Swap key want value) reply
IsKeyCall (Swap key want value) (Err fault) v w = IsWriteFaulted bytes Waits (IsWriteRound bytes) (IsNeeded bytes) (IsDamaged bytes)
    (λ words key. HasValueIn bytes words key want) (rank key) fault v w

-- where blocks tell their words, a window shows what the leaf that covers its start does
abbrev pub IsKeyShown : View KeySaid → KeyCall → KeyReply → Type 0
IsKeyShown v (Get key) reply = Unit {0}
IsKeyShown v (Put key value) reply = Unit {0}
IsKeyShown v (Del key) reply = Unit {0}
IsKeyShown v (Swap key want value) reply = Unit {0}
IsKeyShown v (Window start most) reply = v.start.tells ≡ true → IsOfLeaf plain_said bytes (key_said (Window start most) reply) v

-- the kind of calls that are made on the tree with byte keys
abbrev pub key_calls : Calling KeySaid KeyCall KeyReply Said
key_calls = record {
  plain = plain_said;
  said = key_said;
  may_fill = IsKeyPut;
  tells = IsKeyCall;
  shows = IsKeyShown;
  legal = λ start history. IsLegal (map_of bytes start.contents) (plain_history plain_said history);
}

-- the reply shows no pairs
abbrev pub HasNoPairs : Reply → Type 0
HasNoPairs (plain.Got found) = Unit {0}
HasNoPairs (plain.Was old) = Unit {0}
HasNoPairs (plain.Gone old) = Unit {0}
HasNoPairs (plain.Swapped outcome) = Unit {0}
HasNoPairs (plain.Win window) = ⊥
HasNoPairs (plain.Many pairs) = ⊥
HasNoPairs (plain.Wide reach) = ⊥
