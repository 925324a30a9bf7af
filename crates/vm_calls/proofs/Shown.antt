-- What replies show they show in each later view of the pass.
use Rattle.std.proofs.Common.{[], ◌++◌, ◌+◌, ◌∷◌, ◌≡◌, arith, Err, length, List, Ok, Result}
use Rattle.vm_rule.specs.Prelude.{Kept, Start, StartsWith}
use Rattle.vm_step.specs.Prelude.{View}
use Rattle.vm_tree_range.specs.from_vm_tree_rule.declared_fault_TreeFault.{TreeFault}
use Rattle.vm_calls.specs.{Called.AreCalls, Calling.AreShown, Calling.Calling}

module _ {X C R P : Type 0} (k : Calling X C R P) where
  module _ {keeps : Start → Kept X → Type 0} (laws : AreCalls k keeps) (v w : View X) (start : w.start ≡ v.start)
      (seen : StartsWith w.seen v.seen) (releases : StartsWith w.releases v.releases) where
    pub are-shown-more : (cs : List C) (rs : List (Result R TreeFault)) → AreShown k v cs rs → AreShown k w cs rs
    are-shown-more [] rs h = tt
    are-shown-more (c ∷ cs) [] h = tt
    are-shown-more (c ∷ cs) (Ok r ∷ rs) h = (laws.shown v w start seen releases c r h.0, are-shown-more cs rs h.1)
    are-shown-more (c ∷ cs) (Err f ∷ rs) h = are-shown-more cs rs h

  pub shown-snoc : (v : View X) (cs : List C) (rs : List (Result R TreeFault)) (c : C)
      (r : Result R TreeFault) → length rs ≡ length cs → AreShown k v cs rs → AreShown k v (c ∷ []) (r ∷ [])
      → AreShown k v (cs ++ c ∷ []) (rs ++ r ∷ [])
  shown-snoc v [] [] c r e h s = s
  shown-snoc v [] (r' ∷ rs) c r e h s = absurd (omega arith)
  shown-snoc v (c' ∷ cs) [] c r e h s = absurd (omega arith)
  shown-snoc v (c' ∷ cs) (Ok r' ∷ rs) c r e h s = (h.0, shown-snoc v cs rs c r (omega arith) h.1 s)
  shown-snoc v (c' ∷ cs) (Err f ∷ rs) c r e h s = shown-snoc v cs rs c r (omega arith) h s
