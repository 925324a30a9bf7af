-- What a write of the tree answers: the reply at the release of the leaf, or why it is to be tried again.
use Rattle.std.specs.Prelude.{[], ◌++◌, ◌+◌, ◌∷◌, ◌≡◌, ◌≢◌, ◌⊎◌, Bool, List, None, Option, slice_index, Some, true, ℕ}
use Rattle.vm_map.specs.{declared.call.Call.Call, declared.call.Reply.Reply, declared.call.Said.Said, History.outcome_of}
use Rattle.vm_map.specs.declared.call.Call.TheVariants.{Del, Put, Swap}
use Rattle.vm_map.specs.declared.call.Reply.TheVariants.{Gone, Swapped}
use Rattle.vm_map.specs.declared.call.Swap.TheVariants as swaps
use Rattle.vm_map.specs.Map.{lookup_at, Rises}
use Rattle.vm_tree_model.specs.{Edits.IsFullFor, Layout.Layout, Node.Covers, Tree.map_of}
use Rattle.vm_tree_model.specs.Page.{IsLeaf, node_of, pairs_of}
use Rattle.vm_event.specs.Prelude.{LOCKED, page_at, version_of, word_of}
use Rattle.vm_rule.specs.Prelude.{began_of, Each, entry_of, IsLocking, IsWhole, Kept, last_of, seat_of, StartsWith}
use Rattle.vm_rule.specs.declared.view.WordPlace.{WordPlace}
use Rattle.vm_rule.specs.declared.view.WordPlace.TheVariants as places
use Rattle.vm_tree_merge.specs.from_vm_step.Prelude.{Did, HasWritten, HoldsPage, KnowsAsBefore, Tie, UnlockedExpected, View}
use Rattle.vm_tree_merge.specs.from_vm_guard.{Guards.IsLocked, Guards.IsReading, Guards.IsValid, Quiet.IsUnmark}
use Rattle.vm_tree_merge.specs.from_vm_guard.declared_deny_Deny_TheVariants as denies
use Rattle.vm_tree_merge.specs.from_vm_guard.Denied.{AgainOrWorn, IsDenied, KeptWord}
use Rattle.vm_tree_laws.specs.{History.IsLegal, May.IsEdit, Plain.KeepsPlain, Plain.plain_history, Tied.Tied}
use Rattle.vm_tree_merge.specs.from_vm_kind.Room.{HasRoomFor, IsTightFor}
use Rattle.vm_tree_merge.specs.from_vm_tree_rule.{Leaves.ReadsOn, Seeks.HasLoaded, Seeks.HasRead, Shown.IsShown}
use Rattle.vm_tree_merge.specs.from_vm_tree_rule.{Standing.Awaits, Standing.IsOpened}
use Rattle.vm_tree_merge.specs.from_vm_tree_rule.Turns.{IsDamaged, IsNeeded, TellLeaf}
use Rattle.vm_node.specs.Loads.{IsPageWith}
use Rattle.vm_tree_merge.specs.from_vm_tree_read.Reads.{GainsEntry, IsAnswered}
use Rattle.vm_tree_merge.specs.from_vm_tree_split.{Drafts.IsDraftPlace, PageNumbers.GainsNone}
use Rattle.vm_tree_merge.specs.{Beside.IsDamagedBeside, Beside.IsNeededBeside, Beside.IsUnmerged, Done.IsLockLost, Done.IsMergeDone}
use Rattle.vm_tree_write.specs.{declared.write.Tried.Tried, declared.write.TryWrite.TryWrite}
use Rattle.vm_tree_write.specs.declared.write.Tried.TheVariants as onces
use Rattle.vm_tree_write.specs.declared.write.TryWrite.TheVariants as tries

-- the state word of page p, or a place where the page is drafted in frame f
abbrev pub IsWritePlace : ℕ → ℕ → WordPlace → Type 0
IsWritePlace p f at = (at ≡ places.State p) ⊎ IsDraftPlace p f at

module _ {X : Type 0} where
  -- The calls read pages, and locked page p, wrote it and released it: they left words on its state word, where it is
  -- drafted in this frame, and where a
  -- mark was taken away, and nowhere else. All of the view is as it was but open reads, ties, what the pass has seen
  -- of the two lists, and its entries
  pub record OnlyWrites (p : ℕ) (v w : View X) : Type 0 where
    pub frame : ℕ
    pub done : List Did
    pub log : w.log ≡ v.log ++ done
    pub steps : Each (λ d. (x : ℕ) → d.wrote ≡ Some x → IsWritePlace p frame d.at ⊎ IsUnmark d) done
    pub live : w.live ≡ v.live
    pub start : w.start ≡ v.start
    pub parts : (w.used ≡ v.used) × (w.fresh ≡ v.fresh)
    pub seen : StartsWith w.seen v.seen
    pub releases : StartsWith w.releases v.releases
    pub frames : (w.frames ≡ v.frames) × (w.contents ≡ v.contents)
    pub out : w.out ≡ v.out
    pub notes : w.notes ≡ v.notes
    pub ties : (more : List Tie) × (w.ties ≡ more ++ v.ties)
    pub group : (w.pending ≡ v.pending) × (w.owed ≡ v.owed) × (w.next ≡ v.next)
    pub numbers : GainsNone v w
    pub holds : (q : ℕ) → HoldsPage v w q
    pub knows : (q : ℕ) → IsLocking (seat_of v q) → KnowsAsBefore v w q
    -- a pass that is alone finds the last words of each other page as they were; and it still knows the table
    pub current : w.current ≡ true
    pub alone : IsWhole v → v.current ≡ true → (q : ℕ) → q ≢ p → (last_of w q).words ≡ (last_of v q).words

-- words of a leaf that covers the key, has no room for a pair of it, and not the key
pub record IsFullLeaf (L : Layout) (words : List ℕ) (key : ℕ) : Type 0 where
  pub leaf : IsLeaf L words
  pub covers : Covers (node_of L words) key
  pub full : IsFullFor L words key

-- each page that has the words loaded has too little of its room left for a pair of the key, and not the key where its keys rise
abbrev pub TellTight : Layout → (List ℕ → ℕ) → List (ℕ × ℕ) → ℕ → Type 0
TellTight L spare loaded key = (words : List ℕ) → IsPageWith L.words loaded words → IsTightFor L spare words key

-- where the keys of these words rise, one of them is this key
abbrev pub HasKeyIn : Layout → List ℕ → ℕ → Type 0
HasKeyIn L words key = (low high : ℕ) → Rises low high (pairs_of L words) → lookup_at (pairs_of L words) key ≢ None

-- where the keys of these words rise, this key has this value
abbrev pub HasValueIn : Layout → List ℕ → ℕ → ℕ → Type 0
HasValueIn L words key value = (low high : ℕ) → Rises low high (pairs_of L words) → lookup_at (pairs_of L words) key ≡ Some value

module _ {X : Type 0} (L : Layout) where
  -- the leaf that the descent reached, page p, with the words that were read of it, is at the last version
  pub record IsWornLeaf (v : View X) (key p : ℕ) (w : View X) : Type 0 where
    pub word : ℕ
    pub frame : ℕ
    pub found : View X
    pub opened : IsOpened v p word frame found
    pub awaits : Awaits L found p word 0 key
    pub words : List ℕ
    pub read : HasRead found p words
    pub tag : (node_of L words).tag ≡ 2
    pub covers : Covers (node_of L words) key
    pub denied : IsDenied AgainOrWorn (KeptWord word) UnlockedExpected p (denies.Worn p) found w

module _ {X : Type 0} (L : Layout) (spare : List ℕ → ℕ) where
  -- Words of page p were loaded, and it was validated: each page that has them has a leaf's tag, covers the key, has
  -- too little room left, and not the key
  -- where its keys rise; and where blocks tell their words the page itself has them, and is a leaf, which has not the key
  pub record IsTight (v : View X) (key p : ℕ) (w : View X) : Type 0 where
    pub word : ℕ
    pub frame : ℕ
    pub found : View X
    pub opened : IsOpened v p word frame found
    pub valid : IsValid (Tied L) p word frame None found w
    pub loaded : List (ℕ × ℕ)
    pub read : HasLoaded w p loaded
    pub leaf : TellLeaf L loaded key
    pub full : TellTight L spare loaded key
    pub told : v.start.tells ≡ true → IsPageWith L.words loaded (last_of w p).words × IsFullLeaf L (last_of w p).words key

-- What is said may speak of keys in its own way; `plain` reads it with a number for each key, as the call with its reply
module _ {S : Type 0} (plain : S → Said) (L : Layout) where
  -- The leaf's words before and after are as the call and its reply ask. At the step that made the entry the pages of
  -- the tree, of which the leaf is
  -- one, were such that their map is the start's map after the whole history, and the history is legal for the start's map
  pub record IsBorneOutBy (page : ℕ) (old new : List ℕ) (said : Said) (v w : View S) : Type 0 where
    pub legal : IsLegal (map_of L v.start.contents) (plain_history plain w.seen)
    pub kept : Kept S
    pub keeps : KeepsPlain plain L (began_of v.start) kept
    pub history : kept.history ≡ w.seen
    pub logical : page_at kept.pages page ≡ new
    pub last : (last_of w page).words ≡ new
    pub leaf : IsLeaf L old
    pub edit : IsEdit L old new said.call said.reply

  -- The call with its reply became the last entry, under the pass's first number and its next count, at the release
  -- of a leaf that the call had
  -- locked, right after it had read it and at that version. Of the words that were read only those were stored that
  -- the call changes, each as it is
  -- afterwards, in the frame in which the leaf was locked; and where blocks tell their words the entry is borne out
  pub record IsWriteDone (said : Said) (v w : View S) : Type 0 where
    pub page : ℕ
    pub version : ℕ
    pub word : ℕ
    pub frame : ℕ
    pub found : View S
    pub earlier : ReadsOn v found
    pub reading : IsReading page word frame found
    pub at : version ≡ version_of word
    pub old : List ℕ
    pub read : HasRead found page old
    pub tag : (node_of L old).tag ≡ 2
    pub new : List ℕ
    pub edit : IsLeaf L old → IsEdit L old new said.call said.reply
    pub writes : OnlyWrites page v w
    pub dirty : Bool
    pub held : View S
    pub taken : IsLocked (Tied L) page writes.frame version dirty found held
    pub locked : HasWritten writes.done (places.State page) (word_of LOCKED version)
    pub released : HasWritten writes.done (places.State page) (version + 1)
    pub says : S
    pub says_is : plain says ≡ said
    pub mine : w.mine ≡ v.mine ++ entry_of v says ∷ []
    pub entry : GainsEntry says v [] w
    pub stores : Each (λ d. (f i : ℕ) → d.at ≡ places.Content f i → (x : ℕ) → d.wrote ≡ Some x
        → (x ≡ slice_index new i) × (slice_index old i ≢ slice_index new i)) writes.done
    pub last : (last_of w page).version ≡ version + 1
    pub told : v.start.tells ≡ true → IsBorneOutBy page old new said v w

-- a del of a key that its leaf has not, or a swap of such a key or of one whose value is not the one that is wanted: it writes nothing
abbrev pub WritesNothing : Call → Reply → Type 0
WritesNothing (Del key) (Gone None) = Unit {0}
WritesNothing (Swap key want value) (Swapped (swaps.Kept there)) = Unit {0}
WritesNothing (Swap key want value) (Swapped swaps.Missing) = Unit {0}
WritesNothing _ _ = ⊥

abbrev pub IsVain : Said → Type 0
IsVain said = WritesNothing said.call said.reply

module _ {S : Type 0} (plain : S → Said) (L : Layout) where
  -- a try of a put: made in a leaf that had the key or room; or the leaf is full; or to be tried again; or for a page
  -- that is needed; or such a leaf as
  -- it could have been made in is at the last version.
  -- Without a reply the pass has no further entry, and locked nothing
  abbrev pub IsPut : (List ℕ → ℕ) → ℕ → ℕ → TryWrite → View S → View S → Type 0
  IsPut spare key value (tries.Done reply) v w =
      (a : IsWriteDone plain L (record { call = Put key value; reply = reply }) v w) × HasRoomFor L spare a.old key
  IsPut spare key value (tries.Again saw) v w = ReadsOn v w × IsShown UnlockedExpected v saw w
  IsPut spare key value (tries.Need p) v w = ReadsOn v w × IsNeeded L v key p w
  IsPut spare key value (tries.Worn p) v w = ReadsOn v w × (a : IsWornLeaf L v key p w) × HasRoomFor L spare a.words key
  IsPut spare key value (tries.Tight p) v w = ReadsOn v w × IsTight L spare v key p w
  IsPut spare key value (tries.Damaged p) v w = ReadsOn v w × IsDamaged L v key p w

  -- So a write was made of page p, whose open read had this word, at the view x, and these words were read of it
  abbrev pub IsWriteOf : Said → ℕ → ℕ → List ℕ → View S → View S → View S → Type 0
  IsWriteOf said p word page x v w = (a : IsWriteDone plain L said v w) × (a.old ≡ page) × (a.page ≡ p) × (a.word ≡ word) × (a.found ≡ x)

  -- A del was made in its leaf alone: as words tell that were validated in this call, a condition for a merge is not
  -- met. `rest` is the leaf without the key
  pub record IsDelAlone (key : ℕ) (said : Said) (v w : View S) : Type 0 where
    pub write : IsWriteDone plain L said v w
    pub rest : List ℕ
    pub without : IsLeaf L write.old → IsEdit L write.old rest said.call said.reply
    pub unmerged : IsUnmerged L v key write.page rest write.found

  -- a try of a del: made in a leaf that has the key, which may be at the last version, either alone or with a merge;
  -- or answered by a validation of a leaf that has it
  -- not, which locks nothing, at whatever version. What is told as to be tried again may be a lock that was lost for
  -- a merge; and a page that is needed, or that is not
  -- what the way to it says, may be the leaf's neighbour
  abbrev pub IsDel : ℕ → TryWrite → View S → View S → Type 0
  IsDel key (tries.Done reply) v w =
      ((IsDelAlone key (record {
        call = Del key;
        reply = reply;
      }) v w ⊎ IsMergeDone plain L key (record {
        call =
            Del key;
        reply = reply;
      }) v w) × ¬ (IsVain (record { call = Del key; reply = reply })))
      ⊎ (IsAnswered plain L (record { call = Del key; reply = reply }) v w × IsVain (record { call = Del key; reply = reply }))
  IsDel key (tries.Again saw) v w = (ReadsOn v w × IsShown UnlockedExpected v saw w) ⊎ IsLockLost L v saw w
  IsDel key (tries.Need p) v w = ReadsOn v w × (IsNeeded L v key p w ⊎ IsNeededBeside L v key p w)
  IsDel key (tries.Worn p) v w = ReadsOn v w × (a : IsWornLeaf L v key p w) × HasKeyIn L a.words key
  IsDel key (tries.Tight p) v w = ⊥
  IsDel key (tries.Damaged p) v w = ReadsOn v w × (IsDamaged L v key p w ⊎ IsDamagedBeside L v key p w)

  -- a try of a swap: made in a leaf where the key has the value that is wanted, which may be at the last version; or
  -- answered by a validation of a leaf
  -- where it has not, which locks nothing, at whatever version
  abbrev pub IsSwap : ℕ → ℕ → ℕ → TryWrite → View S → View S → Type 0
  IsSwap key want value (tries.Done reply) v w = (IsWriteDone plain L (record {
    call = Swap key want value;
    reply = reply;
  }) v w × ¬ (IsVain (record { call = Swap key want value; reply = reply }))) ⊎ (IsAnswered plain L (record {
    call =
        Swap key want value;
    reply = reply;
  }) v w × IsVain (record { call = Swap key want value; reply = reply }))
  IsSwap key want value (tries.Again saw) v w = ReadsOn v w × IsShown UnlockedExpected v saw w
  IsSwap key want value (tries.Need p) v w = ReadsOn v w × IsNeeded L v key p w
  IsSwap key want value (tries.Worn p) v w = ReadsOn v w × (a : IsWornLeaf L v key p w) × HasValueIn L a.words key want
  IsSwap key want value (tries.Tight p) v w = ⊥
  IsSwap key want value (tries.Damaged p) v w = ReadsOn v w × IsDamaged L v key p w

-- the reply to a swap, by the value that the key had
abbrev pub swap_reply : ℕ → Option ℕ → Reply
swap_reply want was = Swapped (outcome_of was want)

-- a try with its reply, which is made of the value that the key had
abbrev pub with_reply : (Option ℕ → Reply) → Tried → TryWrite
with_reply reply (onces.Done was) = tries.Done (reply was)
with_reply reply (onces.Again saw) = tries.Again saw
with_reply reply (onces.Need p) = tries.Need p
with_reply reply (onces.Worn p) = tries.Worn p
with_reply reply (onces.Tight p) = tries.Tight p
with_reply reply (onces.Damaged p) = tries.Damaged p

-- the call was answered, or no try can answer it before a split, or ever
abbrev pub IsFinal : TryWrite → Type 0
IsFinal (tries.Done reply) = Unit {0}
IsFinal (tries.Again saw) = ⊥
IsFinal (tries.Need p) = ⊥
IsFinal (tries.Worn p) = Unit {0}
IsFinal (tries.Tight p) = Unit {0}
IsFinal (tries.Damaged p) = ⊥
