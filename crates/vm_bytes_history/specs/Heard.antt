-- The history of workers' calls with byte keys, told over strings. What a pass has seen tells the ranks of keys; the
-- calls and their replies tell which strings these are.
use Rattle.std.specs.List.{AllByRecursion}
use Rattle.std.specs.Prelude.{[], ◌∷◌, ◌≡◌, IfOk, List, map, Result, ℕ}
use Rattle.vm_map.specs.{History.after_all, Map.Pairs}
use Rattle.vm_tree_model.specs.Tree.{map_of}
use Rattle.vm_rule.specs.Prelude.{Entry}
use Rattle.vm_tree_laws.specs.{History.saids, Plain.plain_history}
use Rattle.vm_bytes_form.specs.{Bytes.bytes, Forms.AreKeys, Forms.KeyEntry, KeyMap.ranks_of}
use Rattle.vm_bytes_form.specs.Strings.{IsBefore, IsString, string_of}
use Rattle.vm_bytes_laws.specs.KeyHistory.{AreKeyReplies, AreSpoken, key_called, map_after_all, ShowsKeys}
use Rattle.vm_bytes_laws.specs.Plain.{plain_said}
use Rattle.vm_bytes_laws.specs.declared.call.{KeyCall.KeyCall, KeyReply.KeyReply, KeySaid.KeySaid}
use Rattle.vm_bytes_drive.specs.{from_vm_drive.Holds.HoldsCalls, from_vm_tree_rule.declared_fault_TreeFault.TreeFault}

-- the key of a call, or where a window starts, is a string of at most 64 bytes
abbrev pub AsksString : KeyCall → Type 0
AsksString call = IsString 64 (key_called call)

-- so are the keys that an answer shows
abbrev pub ShowsStrings : Result KeyReply TreeFault → Type 0
ShowsStrings answer = IfOk answer ShowsKeys

-- the same of all calls of all lists, and of all answers to them
abbrev pub AskStrings : List (List KeyCall) → Type 0
AskStrings lists = AllByRecursion (λ calls. AllByRecursion AsksString calls) lists

abbrev pub ShowStrings : List (List (Result KeyReply TreeFault)) → Type 0
ShowStrings replies = AllByRecursion (λ answers. AllByRecursion ShowsStrings answers) replies

-- each key stands before those behind it
abbrev pub KeysRise : List KeyEntry → Type 0
KeysRise [] = Unit {0}
KeysRise (e ∷ es) = AllByRecursion (λ later. IsBefore e.0 later.0) es × KeysRise es

-- a map over strings of at most 64 bytes, by rising key, with just these ranks and values
pub record IsKeyMap (ranks : Pairs) (m : List KeyEntry) : Type 0 where
  pub keys : AreKeys m
  pub rises : KeysRise m
  pub same : ranks_of m ≡ ranks

-- the pairs with the string of each rank in its place
abbrev pub strings_of : Pairs → List KeyEntry
strings_of pairs = map (λ e. (string_of e.0, e.1)) pairs

-- what an entry says, and what a call with its reply says, as they stand
abbrev pub as_told : KeySaid → KeySaid
as_told said = said

abbrev pub key_told : KeyCall → KeyReply → KeySaid
key_told call reply = record { call = call; reply = reply }

-- the calls with their replies, in order
abbrev pub key_saids : List (Entry KeySaid) → List KeySaid
key_saids history = map (λ e. e.said) history

-- What was seen of the calls of workers, on a tree that began as these pages: it has a history over strings. Entry by
-- entry that has the numbers, the counts and the ranks of what was seen, and it holds each worker's calls once, in
-- order, with those very replies; all keys that it speaks of are strings of at most 64 bytes. Each reply is right for
-- the map after the calls before it, from the map of the pages on, and the last map has the ranks of that over ranks
pub record IsHeard (pages : List (List ℕ)) (seen : List (Entry KeySaid)) (lists : List (List KeyCall))
    (replies : List (List (Result KeyReply TreeFault))) : Type 0 where
  pub start : List KeyEntry
  pub begins : IsKeyMap (map_of bytes pages) start
  pub history : List (Entry KeySaid)
  pub same : plain_history plain_said history ≡ plain_history plain_said seen
  pub spoken : AreSpoken (key_saids history)
  pub holds : HoldsCalls as_told key_told history lists replies
  pub right : AreKeyReplies start (key_saids history)
  pub last_keys : AreKeys (map_after_all start (key_saids history))
  pub last : ranks_of (map_after_all start (key_saids history))
      ≡ after_all (map_of bytes pages) (saids (plain_history plain_said seen))
