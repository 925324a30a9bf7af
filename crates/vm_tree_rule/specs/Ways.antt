-- The way on which a call reached a page: pages that it read and validated, each of which names the next one, with its fences.
use Rattle.std.specs.Prelude.{[], ◌+◌, ◌∷◌, ◌≡◌, List, None, Option, unwrap_or, ℕ}
use Rattle.vm_tree_model.specs.Layout.{Layout}
use Rattle.vm_node.specs.Loads.{IsPageWith}
use Rattle.vm_step.specs.Prelude.{View}
use Rattle.vm_kind.specs.from_vm_guard.Guards.{IsValid}
use Rattle.vm_tree_laws.specs.Tied.{IsNodeAs, Tied}
use Rattle.vm_tree_rule.specs.{Leaves.ReadsOn, Seeks.HasLoaded, Seeks.IsNamedRoot, Seeks.TellChildIn, Standing.fence_of, Standing.IsOpened}
use Rattle.vm_tree_rule.specs.declared.descent.Stand.{Stand}

-- an inner node on the way: the level and the fences at which it was reached, and its key behind the pair of the next page, where there is one
pub record WayStep : Type 0 where
  pub page : ℕ
  pub level : ℕ
  pub low : ℕ
  pub high : ℕ
  pub next : Option ℕ

-- no page that has the words loaded is a node of this level with these fences
abbrev pub TellNoNode : Layout → List (ℕ × ℕ) → ℕ → ℕ → ℕ → Type 0
TellNoNode L loaded level low high = (words : List ℕ) → IsPageWith L.words loaded words → ¬ (IsNodeAs L words level low high)

module _ {X : Type 0} (L : Layout) where
  -- Words of page r were loaded in this call that name page p for the key, with its low fence and the key behind. Then
  -- page r was validated; since then the call only read
  pub record IsNamedBelow (v : View X) (key r p low : ℕ) (next : Option ℕ) (w : View X) : Type 0 where
    pub word : ℕ
    pub frame : ℕ
    pub checked : View X
    pub after : View X
    pub opened : IsOpened v r word frame checked
    pub loaded : List (ℕ × ℕ)
    pub read : HasLoaded checked r loaded
    pub names : TellChildIn L loaded key p low next
    pub valid : IsValid (Tied L) r word frame None checked after
    pub since : ReadsOn after w

  -- Page p was reached so, by these pages, the last one first, as a node of this level with these fences: page 0 names
  -- the first one as the root, at the height that it tells, for all keys
  abbrev pub AreOnWay : View X → ℕ → List WayStep → ℕ → ℕ → ℕ → ℕ → View X → Type 0
  AreOnWay v key [] p level low high w = (named : IsNamedRoot L v p w) × (named.level ≡ level) × (low ≡ 0) × (high ≡ L.key_end)
  AreOnWay v key (s ∷ ss) p level low high w = IsNamedBelow v key s.page p low s.next w × (level + 1 ≡ s.level)
      × (high ≡ unwrap_or s.next s.high) × AreOnWay v key ss s.page s.level s.low s.high w

  -- page p was reached on the way of the key, as a node of this level with these fences
  pub record IsOnWay (v : View X) (key p level low high : ℕ) (w : View X) : Type 0 where
    pub steps : List WayStep
    pub are : AreOnWay v key steps p level low high w

  -- so was the page where a descent for the key stands
  abbrev pub StandsOnWay : {T : Type 0} → (T → ℕ) → View X → ℕ → Stand T → View X → Type 0
  StandsOnWay rank v key s w = IsOnWay v key s.guard.pid s.level (rank s.low) (fence_of L rank s.high) w
