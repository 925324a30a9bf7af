-- What a try of a split answers: the group was released, or nothing was split, with the evidence of the step that ended it.
use Rattle.std.specs.Prelude.{◌++◌, ◌∷◌, ◌≡◌, ◌⊎◌, List, None, ℕ}
use Rattle.vm_map.specs.declared.call.Said.{Said}
use Rattle.vm_step.specs.Prelude.{Did, UnlockedExpected, View}
use Rattle.vm_step.specs.declared.saw.Saw.{Saw}
use Rattle.vm_tree_read.specs.from_vm_exmap.Frames.{MovesFrames}
use Rattle.vm_tree_read.specs.from_vm_guard.{declared_exclusive_ExclusiveGuard.ExclusiveGuard, declared_opt_OptGuard.OptGuard, Fresh.IsFull}
use Rattle.vm_tree_read.specs.from_vm_guard.{Groups.pids_of, Guards.IsValid, Reused.HasFreshRoom, Spares.FindsAllFew}
use Rattle.vm_tree_model.specs.Layout.{Layout}
use Rattle.vm_tree_laws.specs.Tied.{Tied}
use Rattle.vm_tree_read.specs.from_vm_tree_rule.{Leaves.ReadsOn, Shown.IsAgain, Shown.IsSeen, Turns.IsDamaged, Turns.IsNeeded}
use Rattle.vm_tree_read.specs.from_vm_tree_rule.Seeks.{IsFullBelow, IsRoomy, IsRootFull}
use Rattle.vm_tree_draft.specs.Splits.{IsSplitUp, KeepsLocksOnly}
use Rattle.vm_tree_split.specs.declared.tries.TrySplit.{TrySplit}
use Rattle.vm_tree_split.specs.declared.tries.TrySplit.TheVariants as tries
use Rattle.vm_tree_draft.specs.PageNumbers.{GainsNone}
use Rattle.vm_tree_split.specs.Prepares.{IsPrepared, IsUntaken}

-- the steps from v to w show both words: of the state word of a page, of a bundle, of the next page or of a free-number word
pub record IsBackedBy {X : Type 0} (v : View X) (saw : Saw) (w : View X) : Type 0 where
  pub done : List Did
  pub log : w.log ≡ v.log ++ done
  pub seen : IsSeen UnlockedExpected done saw

module _ {S : Type 0} (plain : S → Said) (L : Layout) (spare : List ℕ → ℕ) where
  -- the pages were prepared, and then released in a group, which splits the second one; what frames were left went
  -- back. The pass holds no page number more than
  -- before, whether numbers of the fresh pages were free or they were claimed
  pub record HasSplit (n : ℕ) (first second : OptGuard) (v w : View S) : Type 0 where
    pub up : ExclusiveGuard
    pub low : ExclusiveGuard
    pub pages : List ExclusiveGuard
    pub before : View S
    pub prepared : IsPrepared L n first second up low pages v before
    pub after : View S
    pub split : IsSplitUp plain L (first.pid ∷ second.pid ∷ pids_of pages) before after
    pub done : List Did
    pub freed : MovesFrames done after w
    pub numbers : GainsNone v w

  -- the leaf, the last page of a descent that met no full node, was validated
  pub record MetNoFullNode (v : View S) (key : ℕ) (w : View S) : Type 0 where
    pub leaf : OptGuard
    pub loaded : List (ℕ × ℕ)
    pub found : View S
    pub roomy : IsRoomy L spare v key leaf loaded found
    pub valid : IsValid (Tied L) leaf.pid leaf.word leaf.frame None found w

  -- Why nothing was split for which n fresh pages and these two pages were needed: each free-number word had fewer
  -- than n bits at its load, and the next word,
  -- loaded then, left too few pages, and these loads were all that was done; or there was room, and what is needed was not all taken
  pub data IsUnsplit (n : ℕ) (first second : OptGuard) (v w : View S) (answer : TrySplit) : Type 0 where
    full : (pages next need : ℕ) (searched : View S) → FindsAllFew n v searched → IsFull n pages next need searched w
        → answer ≡ tries.Full pages next need → IsUnsplit n first second v w answer
    untaken : (roomy : View S) → HasFreshRoom n v roomy → IsUntaken L n first second roomy w answer → IsUnsplit n first second v w answer

  -- what came of a full node, the second page: it was split, or the answer tells why not
  abbrev pub IsEndOf : ℕ → OptGuard → OptGuard → View S → View S → TrySplit → Type 0
  IsEndOf n first second v w answer = ((answer ≡ tries.Split) × HasSplit n first second v w) ⊎ IsUnsplit n first second v w answer

  -- the first full node on the way of the key is the root, which page 0 names, or a node whose parent has room; and this came of it
  pub data IsEnded (v : View S) (key : ℕ) (w : View S) (answer : TrySplit) : Type 0 where
    root : (meta low : OptGuard) (height : ℕ) (page : List ℕ) (x : View S) → ReadsOn v x
        → IsRootFull L spare v key meta low height page x → IsEndOf 2 meta low x w answer → IsEnded v key w answer
    below : (parent node : OptGuard) (over page : List ℕ) (x : View S) → ReadsOn v x
        → IsFullBelow L spare v key parent node over page x → IsEndOf 1 parent node x w answer
        → IsEnded v key w answer

  -- the cause of each answer; where the search for a full node was not ended the call only read
  abbrev pub IsCause : ℕ → TrySplit → View S → View S → Type 0
  IsCause key tries.Split v w = IsEnded v key w tries.Split
  IsCause key tries.Roomy v w = MetNoFullNode v key w
  IsCause key (tries.Need p) v w = ReadsOn v w × IsNeeded L v key p w
  IsCause key (tries.Again saw) v w = IsBackedBy v saw w × ((ReadsOn v w × IsAgain v saw w) ⊎ IsEnded v key w (tries.Again saw))
  IsCause key (tries.Damaged p) v w = ReadsOn v w × IsDamaged L v key p w
  IsCause key (tries.Worn p) v w = IsEnded v key w (tries.Worn p)
  IsCause key tries.Dry v w = IsEnded v key w tries.Dry
  IsCause key (tries.Full pages next need) v w = IsEnded v key w (tries.Full pages next need)

  -- what a try of a split of the first full node on the way of the key answers. In every case the pass holds what it
  -- held, and made no entry
  abbrev pub IsTrySplit : ℕ → TrySplit → View S → View S → Type 0
  IsTrySplit key answer v w = KeepsLocksOnly v w × IsCause key answer v w

-- something was split, or need not be, or can't be
abbrev pub IsFinalSplit : TrySplit → Type 0
IsFinalSplit tries.Split = Unit {0}
IsFinalSplit tries.Roomy = Unit {0}
IsFinalSplit (tries.Again saw) = ⊥
IsFinalSplit (tries.Need p) = ⊥
IsFinalSplit (tries.Damaged p) = ⊥
IsFinalSplit (tries.Worn p) = Unit {0}
IsFinalSplit tries.Dry = Unit {0}
IsFinalSplit (tries.Full pages next need) = Unit {0}
