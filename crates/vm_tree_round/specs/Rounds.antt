-- A round of a write that is tried again: what it asks for, what a try that was not answered leaves, with the page brought or the room made for it, and
-- why no further round helps.
use Rattle.vm_tree_write.specs.from_vm_rule.{declared_words_Pass.Pass, declared_words_Words.Words}
use Rattle.std.specs.Prelude.{◌≡◌, ◌≤◌, ◌⊎◌, Bool, List, None, ℕ}
use Rattle.vm_map.specs.{declared.call.Said.Said}
use Rattle.vm_tree_model.specs.{Layout.Layout}
use Rattle.vm_tree_write.specs.from_vm_step.Prelude.{AreHeld, IsReadyOn, UnlockedExpected, View, view}
use Rattle.vm_tree_write.specs.from_vm_step.declared_saw_Saw.{Saw}
use Rattle.vm_tree_write.specs.from_vm_evict.declared_report_Report.{Report}
use Rattle.vm_tree_write.specs.from_vm_pool.{Brings.SaysDry, declared_bring_Bring.Bring, Sweeps.IsSwept}
use Rattle.vm_tree_write.specs.from_vm_kind.Room.{HasRoomFor}
use Rattle.vm_tree_write.specs.from_vm_tree_rule.{declared_fault_TreeFault.TreeFault, Leaves.ReadsOn, Turns.IsDamaged, Turns.IsNeeded}
use Rattle.vm_tree_write.specs.from_vm_tree_rule.declared_fault_TreeFault_TheVariants as faults
use Rattle.vm_tree_write.specs.from_vm_tree_read.Waiting.{IsBringFault, IsNoBringFault, IsRound, NamesFault, NamesNone}
use Rattle.vm_tree_write.specs.from_vm_tree_split.{Splits.KeepsLocksOnly, Tries.IsCause, Tries.IsEnded, Tries.MetNoFullNode}
use Rattle.vm_tree_write.specs.from_vm_tree_split.declared_tries_TrySplit_TheVariants as splits
use Rattle.vm_tree_write.specs.Prelude.{IsDamagedBeside, IsLockLost, IsNeededBeside}
use Rattle.vm_tree_write.specs.Writes.{IsTight, IsWornLeaf}

-- The pass may step on these words, which have a page at least, its block is at home, and these frames, which the interface
-- has, are the pass's
pub record MayTry {U B X : Type 0} {o : _} (words : Words U B X o) (tells : Bool) (p : Pass U X o) (own : List ℕ) : Type 0 where
  pub ready : IsReadyOn words tells p
  pub pages : 1 ≤ words.table.shared.key.pages
  pub home : (view p).out ≡ None
  pub frames : AreHeld own (view p)

module _ {X : Type 0} (L : Layout) where
  -- a round of a swap is that of a read, but for the lock that it may have tried
  abbrev pub IsWriteRound : ℕ → View X → View X → Type 0
  IsWriteRound key v w = IsRound L UnlockedExpected key v w

  -- A round of a del is that of a swap; or it looked at the page beside the leaf, which was needed, and was then to be
  -- brought, once, and the answer named no fault; or a lock was lost for a merge
  pub data IsDelRound (key : ℕ) (v w : View X) : Type 0 where
    round : IsWriteRound key v w → IsDelRound key v w
    needed : (page : ℕ) (x : View X) → ReadsOn v x → IsNeededBeside L v key page x → IsNoBringFault page x w → IsDelRound key v w
    lost : (saw : Saw) → IsLockLost L v saw w → IsDelRound key v w

  -- a page that a del needs is one on the way to the leaf, or stands beside the leaf
  abbrev pub IsNeededByDel : View X → ℕ → ℕ → View X → Type 0
  IsNeededByDel v key p w = IsNeeded L v key p w ⊎ IsNeededBeside L v key p w

  -- so does a damaged page that a del meets
  abbrev pub IsDamagedForDel : View X → ℕ → ℕ → View X → Type 0
  IsDamagedForDel v key p w = IsDamaged L v key p w ⊎ IsDamagedBeside L v key p w

  -- a try needed a page, as `needs` tells, that could not be brought, or met a damaged one, as `meets` tells, or reached a
  -- leaf at the last version which it would have written, as `may` tells of its words
  pub data IsWriteFault (needs meets : View X → ℕ → ℕ → View X → Type 0) (may : List ℕ → ℕ → Type 0)
      (key : ℕ) (fault : TreeFault) (v w : View X) : Type 0 where
    missing : (page : ℕ) (x : View X) → ReadsOn v x → needs v key page x → IsBringFault page fault x w
        → IsWriteFault needs meets may key fault v w
    damaged : (page : ℕ) → ReadsOn v w → meets v key page w → fault ≡ faults.Damaged page → IsWriteFault needs meets may key fault v w
    worn : (page : ℕ) → ReadsOn v w → (a : IsWornLeaf L v key page w) → may a.words key → fault ≡ faults.Worn page
        → IsWriteFault needs meets may key fault v w

module _ {S : Type 0} (plain : S → Said) (L : Layout) (spare : List ℕ → ℕ) where
  -- why no room could be made for a key: a device failed; a page was damaged, or at the last version; or the image has no page left
  pub data IsRoomFault (key : ℕ) (fault : TreeFault) (v w : View S) : Type 0 where
    missing : (found : View S) (page : ℕ) → ReadsOn v found → IsNeeded L v key page found
        → IsBringFault page fault found w → IsRoomFault key fault v w
    damaged : (page : ℕ) → ReadsOn v w → IsDamaged L v key page w → fault ≡ faults.Damaged page → IsRoomFault key fault v w
    worn : (p : ℕ) → IsEnded plain L spare v key w (splits.Worn p) → fault ≡ faults.Worn p → IsRoomFault key fault v w
    full : (pages next need : ℕ) → IsEnded plain L spare v key w (splits.Full pages next need)
        → fault ≡ faults.Full pages → IsRoomFault key fault v w
    swept :
        (dry : View S) (want cap : ℕ) (old new : List ℕ) (report : Report) (answer : Bring)
        → IsEnded plain L spare v key dry splits.Dry → KeepsLocksOnly v dry
        → IsSwept want cap old new report dry w → SaysDry report answer → NamesFault answer fault → IsRoomFault key fault v w

  -- a split was tried once to make room for a key, and no fault came of it: a node was split; no node is full; others
  -- came before; the page needed
  -- was to be brought; or frames were to be freed
  pub data IsNoRoomFault (key : ℕ) (v w : View S) : Type 0 where
    split : IsEnded plain L spare v key w splits.Split → IsNoRoomFault key v w
    roomy : MetNoFullNode plain L spare v key w → IsNoRoomFault key v w
    again : (saw : Saw) → IsCause plain L spare key (splits.Again saw) v w → IsNoRoomFault key v w
    missing : (found : View S) (page : ℕ) → ReadsOn v found → IsNeeded L v key page found
        → IsNoBringFault page found w → IsNoRoomFault key v w
    swept :
        (dry : View S) (want cap : ℕ) (old new : List ℕ) (report : Report) (answer : Bring)
        → IsEnded plain L spare v key dry splits.Dry → KeepsLocksOnly v dry
        → IsSwept want cap old new report dry w → SaysDry report answer → NamesNone answer → IsNoRoomFault key v w

  -- a round of a put is that of a swap; or the try met a full leaf, and then room was to be made for the key, once, of which no fault came
  pub data IsPutRound (key : ℕ) (v w : View S) : Type 0 where
    round : IsWriteRound L key v w → IsPutRound key v w
    tight : (page : ℕ) (x : View S) → ReadsOn v x → IsTight L spare v key page x → IsNoRoomFault key x w → IsPutRound key v w

  -- a try of a put needed a page that could not be brought, or met a damaged page, or reached a leaf at the last version,
  -- or met a full leaf for which no room could be made
  pub data IsPutFault (key : ℕ) (fault : TreeFault) (v w : View S) : Type 0 where
    unwritten : IsWriteFault L (IsNeeded L) (IsDamaged L) (HasRoomFor L spare) key fault v w → IsPutFault key fault v w
    tight : (page : ℕ) (x : View S) → ReadsOn v x → IsTight L spare v key page x → IsRoomFault key fault x w → IsPutFault key fault v w
