-- What each worker did, as a part of what the joined pass knows.
use Rattle.std.specs.Prelude.{[], ◌++◌, ◌∷◌, ◌≡◌, List, Result}
use Rattle.vm_rule.specs.Prelude.{entries_by, StartsWith}
use Rattle.vm_step.specs.Prelude.{Did, Note, View}
use Rattle.vm_calls.specs.from_vm_tree_rule.declared_fault_TreeFault.{TreeFault}
use Rattle.vm_calls.specs.Calling.{AreMade, Calling}

module _ {A : Type 0} where
  -- these lists stand in this one, one behind another
  abbrev pub StandIn : List (List A) → List A → Type 0
  StandIn [] all = Unit {0}
  StandIn (part ∷ parts) all = (front : List A) × (rest : List A) × (all ≡ front ++ (part ++ rest)) × StandIn parts rest

  -- so they do, behind this front of it
  abbrev pub StandBehind : List A → List (List A) → List A → Type 0
  StandBehind front parts all = (rest : List A) × (all ≡ front ++ rest) × StandIn parts rest

module _ {X C R P : Type 0} (kind : Calling X C R P) where
  -- the worker's pass began with nothing done, made the calls, and knew u behind the last one; its entries are those
  -- that this pass's history has
  -- under its number
  pub record HasPart (w : View X) (calls : List C) (answers : List (Result R TreeFault)) (u : View X) : Type 0 where
    pub began : View X
    pub nothing : (began.mine ≡ []) × (began.notes ≡ []) × (began.log ≡ [])
    pub each : AreMade kind calls answers began u
    pub start : u.start ≡ w.start
    pub entries : entries_by u.used w.seen ≡ u.mine
    pub heard : StartsWith w.seen u.seen
    pub saw : StartsWith w.releases u.releases

  -- so each worker's did
  abbrev pub HaveParts : View X → List (List C) → List (List (Result R TreeFault)) → List (View X) → Type 0
  HaveParts w [] [] [] = Unit {0}
  HaveParts w (calls ∷ lists) (told ∷ answers) (u ∷ passes) = HasPart w calls told u × HaveParts w lists answers passes
  HaveParts w _ _ _ = ⊥

module _ {X : Type 0} where
  -- the steps of passes, and their notes
  abbrev pub logs_of : List (View X) → List (List Did)
  logs_of [] = []
  logs_of (u ∷ us) = u.log ∷ logs_of us

  abbrev pub noted_by : List (View X) → List (List Note)
  noted_by [] = []
  noted_by (u ∷ us) = u.notes ∷ noted_by us
