-- A kind of calls: what is said of calls of this kind and of their answers. Workers are stated over any kind.
use Rattle.std.specs.Prelude.{[], ◌∷◌, ◌≡◌, Err, List, map, Ok, Result}
use Rattle.vm_rule.specs.Prelude.{Entry}
use Rattle.vm_step.specs.Prelude.{Origin, View}
use Rattle.vm_tree_range.specs.from_vm_tree_rule.declared_fault_TreeFault.{TreeFault}

-- Of calls C with replies R, whose entries in the history are X, and are read as P
pub record Calling (X C R P : Type 0) : Type 1 where
  -- what an entry says, and what a call with its reply says
  pub plain : X → P
  pub said : C → R → P
  -- the call may be answered that all pages are used up
  pub may_fill : C → Type 0
  -- what is told of a call that was answered so, between what its pass knew before it and behind it
  pub tells : C → Result R TreeFault → View X → View X → Type 0
  -- what a reply shows, as a pass knows it
  pub shows : View X → C → R → Type 0
  -- a history is right for what the pages were when it began
  pub legal : Origin → List (Entry X) → Type 0

-- what the entries of a history say
abbrev pub said_in : {X P : Type 0} → (X → P) → List (Entry X) → List P
said_in plain h = map (λ e. plain e.said) h

-- the calls with their replies, but those that a fault answered
abbrev pub answered : {C R P : Type 0} → (C → R → P) → List C → List (Result R TreeFault) → List P
answered said [] rs = []
answered said (c ∷ cs) [] = []
answered said (c ∷ cs) (Ok r ∷ rs) = said c r ∷ answered said cs rs
answered said (c ∷ cs) (Err f ∷ rs) = answered said cs rs

module _ {X C R P : Type 0} (k : Calling X C R P) where
  -- each reply of a list that was answered shows what it does
  abbrev pub AreShown : View X → List C → List (Result R TreeFault) → Type 0
  AreShown v [] rs = Unit {0}
  AreShown v (c ∷ cs) [] = Unit {0}
  AreShown v (c ∷ cs) (Ok r ∷ rs) = k.shows v c r × AreShown v cs rs
  AreShown v (c ∷ cs) (Err f ∷ rs) = AreShown v cs rs

  -- The calls were made in order, with these answers: what one leaves the next one begins with
  abbrev pub AreMade : List C → List (Result R TreeFault) → View X → View X → Type 0
  AreMade [] [] v w = w ≡ v
  AreMade [] (r ∷ rs) v w = ⊥
  AreMade (c ∷ cs) [] v w = ⊥
  AreMade (c ∷ cs) (r ∷ rs) v w = (x : View X) × k.tells c r v x × AreMade cs rs x w
