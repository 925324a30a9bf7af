-- A leaf's neighbour under the same parent; and why a leaf does not become one with it.
use Rattle.std.specs.Prelude.{◌*◌, ◌++◌, ◌<◌, ◌≡◌, ◌≢◌, ◌≤◌, ◌⊎◌, Bool, false, length, List, None, Some, true, ℕ}
use Rattle.vm_map.specs.Map.{Rises}
use Rattle.vm_tree_model.specs.{Edits.child_of, Layout.Layout, Layout.size, Node.Node}
use Rattle.vm_tree_model.specs.Page.{node_of, pairs_of}
use Rattle.vm_event.specs.Prelude.{MAX_VERSION, version_of}
use Rattle.vm_inner.specs.Neighbours.{AreBeside, HasNoPair}
use Rattle.vm_tree_join.specs.from_vm_kind.Joins.{both_as_one}
use Rattle.vm_tree_join.specs.from_vm_step.Prelude.{Did, NeedsPage, ReadsAsBefore, View}
use Rattle.vm_tree_join.specs.from_vm_guard.{declared_opt_OptGuard.OptGuard, Guards.IsValid}
use Rattle.vm_tree_laws.specs.Tied.{Tied}
use Rattle.vm_tree_join.specs.from_vm_tree_rule.{Above.IsParentOf, declared_turn_Turn.Turn, Leaves.LeavesWord, Leaves.ReadsOn}
use Rattle.vm_tree_join.specs.from_vm_tree_rule.{Seeks.HasRead, Seeks.IsMetaRead, Seeks.IsNamedRoot}
use Rattle.vm_tree_join.specs.from_vm_tree_rule.declared_turn_Turn_TheVariants as turns
use Rattle.vm_tree_join.specs.from_vm_tree_rule.{Shown.IsAgain, Standing.AwaitsNode, Standing.IsOpened, Turns.IsNoChild}

-- these words, where their keys rise, name the left page at `low` and the right one at the next key, and one of them
-- for the key: the right one only where it is the last
abbrev pub TellBeside : Layout → List ℕ → ℕ → ℕ → ℕ → ℕ → ℕ → Type 0
TellBeside L over key low left separator right =
    (from to : ℕ) → Rises from to (pairs_of L over) → AreBeside L over key low left separator right

-- they name no page for the key beside the leaf's own: they have one pair, or none for the key, or name the leaf twice
abbrev pub HasNoOther : Layout → List ℕ → ℕ → ℕ → Type 0
HasNoOther L over key leaf = (from to : ℕ) → Rises from to (pairs_of L over) → HasNoPair L over key
    ⊎ ((low separator : ℕ) × AreBeside L over key low leaf separator leaf)

-- the neighbour is behind the leaf, or before it
abbrev pub AreInOrder : {A : Type 0} → Bool → A → A → A → A → Type 0
AreInOrder behind leaf other left right =
    ((behind ≡ true) × (left ≡ leaf) × (right ≡ other)) ⊎ ((behind ≡ false) × (left ≡ other) × (right ≡ leaf))

-- of the two pages one is the leaf, as far as it is known, and the other one is the neighbour
pub record IsChoice (L : Layout) (over : List ℕ) (key leaf named : ℕ) (behind : Bool) (low left separator right : ℕ) : Type 0 where
  pub beside : TellBeside L over key low left separator right
  pub places : ((behind ≡ true) × (left ≡ leaf) × (right ≡ named)) ⊎ ((behind ≡ false) × (left ≢ leaf) × (left ≡ named))
  pub apart : named ≢ leaf

-- the words of the leaf, without the key, and those of its neighbour, as one node
abbrev pub as_one : Layout → Bool → List ℕ → List ℕ → Node
as_one L true rest other = both_as_one L rest other
as_one L false rest other = both_as_one L other rest

-- the call only read, and page q stays as it was read
abbrev pub LeavesBeside : {X : Type 0} → ℕ → View X → View X → Type 0
LeavesBeside q v w = ReadsOn v w × ReadsAsBefore v w q × LeavesWord q v w

module _ {X : Type 0} (L : Layout) where
  -- in this call page p was read whole, with these words, and then validated; since then the call only read
  pub record IsReadWhole (v : View X) (p : ℕ) (page : List ℕ) (w : View X) : Type 0 where
    pub word : ℕ
    pub frame : ℕ
    pub checked : View X
    pub after : View X
    pub opened : IsOpened v p word frame checked
    pub read : HasRead checked p page
    pub valid : IsValid (Tied L) p word frame None checked after
    pub since : ReadsOn after w

  -- the call found page p evicted, and had not left that word; the leaf's parent, which was validated afterwards, was
  -- read whole, and names it beside the leaf
  pub record IsNeededBeside (v : View X) (key p : ℕ) (w : View X) : Type 0 where
    pub done : List Did
    pub log : w.log ≡ v.log ++ done
    pub needs : NeedsPage done p
    pub inside : p < v.start.pages
    pub up : OptGuard
    pub leaf : ℕ
    pub over : List ℕ
    pub behind : Bool
    pub low : ℕ
    pub left : ℕ
    pub separator : ℕ
    pub right : ℕ
    pub choice : IsChoice L over key leaf p behind low left separator right
    pub before : View X
    pub reads : ReadsOn v before
    pub read : HasRead before up.pid over
    pub valid : IsValid (Tied L) up.pid up.word up.frame None before w

  -- Page p, the leaf's parent, was read whole and validated, and names a page beside the leaf that it can't name: so
  -- blocks do not tell their words
  pub record IsDamagedBeside (v : View X) (key p : ℕ) (w : View X) : Type 0 where
    pub untold : v.start.tells ≡ false
    pub up : OptGuard
    pub page : up.pid ≡ p
    pub leaf : ℕ
    pub over : List ℕ
    pub named : ℕ
    pub behind : Bool
    pub low : ℕ
    pub left : ℕ
    pub separator : ℕ
    pub right : ℕ
    pub choice : IsChoice L over key leaf named behind low left separator right
    pub none : IsNoChild v.start.pages up.pid named
    pub found : View X
    pub opened : IsOpened v up.pid up.word up.frame found
    pub read : HasRead found up.pid over
    pub valid : IsValid (Tied L) up.pid up.word up.frame None found w

  -- the call only read, and ended since the leaf's neighbour, or its parent, could not be read
  abbrev pub IsTurnedBeside : View X → ℕ → Turn → View X → Type 0
  IsTurnedBeside v key (turns.Again saw) w = ReadsOn v w × IsAgain v saw w
  IsTurnedBeside v key (turns.Need p) w = ReadsOn v w × IsNeededBeside v key p w
  IsTurnedBeside v key (turns.Damaged p) w = ReadsOn v w × IsDamagedBeside v key p w

  -- This page, whose read began in this call and is open, stands beside the leaf under the same parent, as words say
  -- that were read of the parent whole and validated
  -- then; it is a node of level 0, where blocks tell their words
  pub record IsNeighbour (v : View X) (key : ℕ) (up : OptGuard) (leaf : ℕ) (over : List ℕ) (other : OptGuard)
      (behind : Bool) (low left separator right : ℕ) (w : View X) : Type 0 where
    pub opened : IsOpened v other.pid other.word other.frame w
    pub apart : (other.pid ≢ up.pid) × (other.pid ≢ 0)
    pub choice : IsChoice L over key leaf other.pid behind low left separator right
    pub stands : IsParentOf L v key up leaf w
    pub read : HasRead w up.pid over
    pub whole : IsReadWhole v up.pid over w
    pub awaits : (from to : ℕ) × AwaitsNode L w other.pid other.word 0 from to
    pub names : v.start.tells ≡ true → child_of L over key ≡ Some leaf

  -- Why the pair alone goes: by words validated in this call a condition for a merge is not met. `rest` is the leaf
  -- without the key. The leaf is the root; it keeps too many
  -- pairs; its parent has no other child; both have too many; or a page beside the leaf that would be locked is at the last version
  pub data IsUnmerged (v : View X) (key leaf : ℕ) (rest : List ℕ) (w : View X) : Type 0 where
    root : IsNamedRoot L v leaf w → IsUnmerged v key leaf rest w
    full : ¬ (4 * size L (node_of L rest) ≤ L.room) → IsUnmerged v key leaf rest w
    single : (up : OptGuard) (over : List ℕ) → IsParentOf L v key up leaf w → IsReadWhole v up.pid over w
        → HasNoOther L over key leaf → IsUnmerged v key leaf rest w
    many : (up other : OptGuard) (over page : List ℕ) (behind : Bool) (low left separator right : ℕ)
        → IsNeighbour v key up leaf over other behind low left separator right w
        → IsReadWhole v other.pid page w → ¬ (size L (as_one L behind rest page) ≤ L.merge_room) → IsUnmerged v key leaf rest w
    worn_parent : (up : OptGuard) → IsParentOf L v key up leaf w → version_of up.word ≡ MAX_VERSION → IsUnmerged v key leaf rest w
    worn_beside : (up other : OptGuard) (over : List ℕ) (behind : Bool) (low left separator right : ℕ)
        → IsNeighbour v key up leaf over other behind low left separator right w
        → version_of other.word ≡ MAX_VERSION → IsUnmerged v key leaf rest w
    worn_meta : (meta root other : OptGuard) (over : List ℕ) (behind : Bool) (low left separator right : ℕ)
        → IsMetaRead meta.pid meta.word meta.frame root.pid 1 v w
        → IsNeighbour v key root leaf over other behind low left separator right w → length (pairs_of L over) ≡ 2
        → version_of meta.word ≡ MAX_VERSION → IsUnmerged v key leaf rest w
