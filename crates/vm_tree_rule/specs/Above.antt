-- The pages above a leaf that a descent reached, which are open still.
use Rattle.std.specs.Prelude.{◌++◌, ◌<◌, ◌≡◌, ◌≢◌, ◌≤◌, List, ℕ}
use Rattle.vm_tree_model.specs.Layout.{Layout}
use Rattle.vm_rule.specs.Prelude.{loads_at}
use Rattle.vm_step.specs.Prelude.{View}
use Rattle.vm_kind.specs.from_vm_guard.declared_opt_OptGuard.{OptGuard}
use Rattle.vm_tree_rule.specs.declared.above.Above.{Above}
use Rattle.vm_tree_rule.specs.declared.above.Above.TheVariants as aboves
use Rattle.vm_tree_rule.specs.{Resident.IsKnownNow, Seeks.IsMetaRead, Seeks.IsNamedRoot, Seeks.TellChild}
use Rattle.vm_tree_rule.specs.{declared.above.Reached.Reached, Standing.Awaits, Standing.AwaitsNode, Standing.fence_of, Standing.IsOpened}
use Rattle.vm_tree_rule.specs.Ways.{IsOnWay}

module _ {X : Type 0} (L : Layout) where
  -- This page, whose read began in this call and is open, stands right above the leaf on the way of the key: words
  -- that were loaded of it name the leaf for the key, and
  -- it is an inner node of level 1 that covers the key, where blocks tell their words
  pub record IsParentOf (v : View X) (key : ℕ) (parent : OptGuard) (leaf : ℕ) (w : View X) : Type 0 where
    pub opened : IsOpened v parent.pid parent.word parent.frame w
    pub apart : leaf ≢ parent.pid
    pub not_zero : (leaf ≢ 0) × (parent.pid ≢ 0)
    pub awaits : Awaits L w parent.pid parent.word 1 key
    pub loaded : List (ℕ × ℕ)
    pub read : (before behind : List (ℕ × ℕ)) × (loads_at w parent.pid ≡ before ++ (loaded ++ behind))
    pub names : TellChild L loaded key leaf

  -- the leaf is the root, which page 0 names; or its parent is the root; or its parent is another node
  abbrev pub IsAbove : View X → ℕ → Above → ℕ → View X → Type 0
  IsAbove v key aboves.Nothing leaf w = IsNamedRoot L v leaf w
  IsAbove v key (aboves.Root meta root) leaf w = IsMetaRead meta.pid meta.word meta.frame root.pid 1 v w × IsParentOf v key root leaf w
  IsAbove v key (aboves.Node node) leaf w = IsParentOf v key node leaf w

module _ {X : Type 0} where
  -- a pass that is alone knows the words of these guards, as long as it meets resident pages alone
  abbrev pub KnowsAbove : Above → View X → Type 0
  KnowsAbove aboves.Nothing w = Unit {0}
  KnowsAbove (aboves.Root meta root) w = IsKnownNow meta.pid meta.word w × IsKnownNow root.pid root.word w
  KnowsAbove (aboves.Node node) w = IsKnownNow node.pid node.word w

module _ {X T : Type 0} (L : Layout) (rank : T → ℕ) where
  -- the leaf was reached on the way of the key with these fences, which hold the key; it awaits a leaf with just these
  pub record IsLeafReached (v : View X) (key : ℕ) (r : Reached T) (w : View X) : Type 0 where
    pub awaits : AwaitsNode L w r.leaf.pid r.leaf.word 0 (rank r.low) (fence_of L rank r.high)
    pub from : rank r.low ≤ key
    pub below : key < fence_of L rank r.high
    pub way : IsOnWay L v key r.leaf.pid 0 (rank r.low) (fence_of L rank r.high) w

module _ {X : Type 0} (L : Layout) where
  -- page p, read from this word on, was reached on the way of the key as a leaf whose fences hold the key
  pub record IsLeafOn (v : View X) (key p word : ℕ) (w : View X) : Type 0 where
    pub low : ℕ
    pub high : ℕ
    pub awaits : AwaitsNode L w p word 0 low high
    pub from : low ≤ key
    pub below : key < high
    pub way : IsOnWay L v key p 0 low high w
