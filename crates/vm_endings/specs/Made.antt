-- What workers' calls on a tree come to, for every command that has them made: what is left of them, and the map after them.
use Rattle.std.specs.Prelude.{◌≡◌, List, Result, ℕ}
use Rattle.vm_block.specs.declared.memory.MemBlock.{MemBlock}
use Rattle.vm_map.specs.{declared.call.Call.Call, declared.call.Reply.Reply, declared.call.Said.Said, History.after_all, Map.Pairs}
use Rattle.vm_tree_model.specs.{Fixed.fixed, Tree.map_of}
use Rattle.vm_image.specs.declared.blocks.PlannedFault.{PlannedFault}
use Rattle.vm_serve.specs.from_vm_evict.declared_flushing_Flushed.{Flushed}
use Rattle.vm_serve.specs.from_vm_pool.{Closing.view_at_end, declared_ended_Ended.Ended}
use Rattle.vm_tree_laws.specs.History.{saids}
use Rattle.vm_serve.specs.from_vm_tree_rule.declared_fault_TreeFault.{TreeFault}
use Rattle.vm_serve.specs.Served.{IsServed}

-- the map of the pages of n words after the calls of the one history that `end` keeps
abbrev pub last_map : {U : Type 0} → ℕ → List (List ℕ) → Ended U Said → Pairs
last_map n pages end = after_all (map_of (fixed n) pages) (saids (view_at_end end).seen)

-- The workers' calls were made on the tree of the pages of n words, over blocks that may fail as often as is planned for each, in a pool of
-- so many frames, each page at the first version at the start; `end` keeps the one history of that, and each worker has these answers
pub record IsMade (n : ℕ) {U : Type 0} (plan : List PlannedFault) (first count : ℕ) (end : Ended U Said)
    (pages : List (List ℕ)) (lists : List (List Call)) : Type 0 where
  pub replies : List (List (Result Reply TreeFault))
  pub report : Flushed
  pub blocks : List (MemBlock n)
  pub served : IsServed n pages plan lists replies report blocks end
  pub version : (view_at_end end).start.version ≡ first
  pub frames : (view_at_end end).start.frames ≡ count
