-- What is known before two leaves are locked to become one: all that the call read, and that the conditions hold.
use Rattle.std.specs.Prelude.{◌*◌, ◌≡◌, ◌≢◌, ◌≤◌, ◌⊎◌, Bool, List, Some, ℕ}
use Rattle.vm_map.specs.{declared.call.Said.Said, Map.lookup_at, Map.Rises}
use Rattle.vm_map.specs.declared.call.Call.TheVariants.{Del}
use Rattle.vm_map.specs.declared.call.Reply.TheVariants.{Gone}
use Rattle.vm_tree_model.specs.{Layout.Layout, Layout.size, Node.Covers}
use Rattle.vm_tree_model.specs.Page.{IsLeaf, node_of, pairs_of}
use Rattle.vm_event.specs.Prelude.{MAX_VERSION, version_of}
use Rattle.vm_tree_join.specs.from_vm_step.Prelude.{View}
use Rattle.vm_tree_join.specs.from_vm_guard.declared_opt_OptGuard.{OptGuard}
use Rattle.vm_tree_laws.specs.May.{IsEdit}
use Rattle.vm_tree_join.specs.from_vm_tree_rule.{Seeks.HasRead, Standing.Awaits, Standing.IsOpened}
use Rattle.vm_tree_join.specs.from_vm_tree_rule.{declared_above_Above.Above, Resident.IsKnownNow, Resident.KnowsResident}
use Rattle.vm_tree_merge.specs.Beside.{as_one, IsNeighbour, IsTurnedBeside, IsUnmerged, LeavesBeside}
use Rattle.vm_tree_merge.specs.declared.tries.Merge.{Merge}
use Rattle.vm_tree_merge.specs.declared.tries.Merge.TheVariants as merges
use Rattle.vm_tree_merge.specs.Done.{IsLockLost, IsMergeDone}

-- what is said is a del of the key, which was there
abbrev pub SaysDel : Said → ℕ → Type 0
SaysDel said key = (value : ℕ) × (said ≡ record { call = Del key; reply = Gone (Some value) })

module _ {X : Type 0} (L : Layout) where
  -- the leaf was read whole, and its words without the key are `rest`, as what is said asks
  pub record IsLeafRead (v : View X) (key : ℕ) (leaf : OptGuard) (page rest : List ℕ) (said : Said) (w : View X) : Type 0 where
    pub opened : IsOpened v leaf.pid leaf.word leaf.frame w
    pub awaits : Awaits L w leaf.pid leaf.word 0 key
    pub read : HasRead w leaf.pid page
    pub says : SaysDel said key
    pub edit : IsLeaf L page → IsEdit L page rest said.call said.reply

  -- the leaf was read whole, covers the key and has it, with the value that is said, where its keys rise
  pub record IsDelRead (v : View X) (key : ℕ) (leaf : OptGuard) (page : List ℕ) (said : Said) (w : View X) : Type 0 where
    pub opened : IsOpened v leaf.pid leaf.word leaf.frame w
    pub awaits : Awaits L w leaf.pid leaf.word 0 key
    pub read : HasRead w leaf.pid page
    pub covers : Covers (node_of L page) key
    pub value : ℕ
    pub said_is : said ≡ record { call = Del key; reply = Gone (Some value) }
    pub there : (from to : ℕ) → Rises from to (pairs_of L page) → Some value ≡ lookup_at (pairs_of L page) key

  -- The leaf and its neighbour were read whole: the leaf keeps few pairs, both together fit into one, and neither
  -- they nor the parent are at the last version
  pub record IsToMerge (v : View X) (key : ℕ) (up : OptGuard) (leaf : ℕ) (over rest : List ℕ) (other : OptGuard)
      (page : List ℕ) (behind : Bool) (low left separator right : ℕ) (w : View X) : Type 0 where
    pub neighbour : IsNeighbour L v key up leaf over other behind low left separator right w
    pub read : HasRead w other.pid page
    pub sparse : 4 * size L (node_of L rest) ≤ L.room
    pub few : size L (as_one L behind rest page) ≤ L.merge_room
    pub below : (version_of up.word ≢ MAX_VERSION) × (version_of other.word ≢ MAX_VERSION)

module _ {S : Type 0} (plain : S → Said) (L : Layout) where
  -- What a try of a merge comes to, by the pages above the leaf: from x on, in a call that began with v
  abbrev pub IsMergeTried : View S → ℕ → Above → OptGuard → List ℕ → List ℕ → Said → Merge → View S → View S → Type 0
  IsMergeTried v key above leaf page rest said merges.Made x w =
      (d : IsMergeDone plain L key said v w) × (d.above ≡ above) × (d.leaf ≡ leaf) × (d.page ≡ page)
  IsMergeTried v key above leaf page rest said (merges.Alone g) x w = (g ≡ leaf) × LeavesBeside leaf.pid x w
      × (IsUnmerged L v key leaf.pid rest w ⊎ (version_of leaf.word ≡ MAX_VERSION))
  IsMergeTried v key above leaf page rest said (merges.Turned turn) x w = IsTurnedBeside L v key turn w
  IsMergeTried v key above leaf page rest said (merges.Lost saw) x w = IsLockLost L v saw w

-- the try came to an end for good
abbrev pub IsFinalMerge : Merge → Type 0
IsFinalMerge merges.Made = Unit {0}
IsFinalMerge (merges.Alone g) = Unit {0}
IsFinalMerge (merges.Turned turn) = ⊥
IsFinalMerge (merges.Lost saw) = ⊥

-- what a pass that is alone knows then
abbrev pub IsKnownAfter : {X : Type 0} → Merge → View X → Type 0
IsKnownAfter merges.Made w = KnowsResident w
IsKnownAfter (merges.Alone g) w = IsKnownNow g.pid g.word w
IsKnownAfter (merges.Turned turn) w = Unit {0}
IsKnownAfter (merges.Lost saw) w = Unit {0}
