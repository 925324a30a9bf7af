-- Lists of calls, one for each worker, and the answers to them: of each list what is said of one.
use Rattle.std.specs.Prelude.{[], ◌+◌, ◌∷◌, List, Result, ℕ}
use Rattle.vm_step.specs.Prelude.{View}
use Rattle.vm_calls.specs.from_vm_tree_rule.declared_fault_TreeFault.{TreeFault}
use Rattle.vm_calls.specs.{Calling.AreShown, Calling.Calling, Causes.AreCausedBy, Causes.faults_of}

-- how many answers say that the device of page p failed
abbrev pub all_faults_of : {R : Type 0} → ℕ → List (List (Result R TreeFault)) → ℕ
all_faults_of p [] = 0
all_faults_of p (rs ∷ more) = faults_of p rs + all_faults_of p more

module _ {X C R P : Type 0} (kind : Calling X C R P) where
  -- the causes of all answers
  abbrev pub AllCausedBy : (full worn damaged : ℕ → Type 0) → List (List C) → List (List (Result R TreeFault)) → Type 0
  AllCausedBy full worn damaged [] answers = Unit {0}
  AllCausedBy full worn damaged (cs ∷ lists) [] = Unit {0}
  AllCausedBy full worn damaged (cs ∷ lists) (rs ∷ answers) =
      AreCausedBy kind full worn damaged cs rs × AllCausedBy full worn damaged lists answers

  -- each reply among them shows what it does
  abbrev pub AllShown : View X → List (List C) → List (List (Result R TreeFault)) → Type 0
  AllShown v [] answers = Unit {0}
  AllShown v (cs ∷ lists) [] = Unit {0}
  AllShown v (cs ∷ lists) (rs ∷ answers) = AreShown kind v cs rs × AllShown v lists answers

module _ {C M : Type 0} (suffices : List C → M → Type 0) where
  -- there is memory for each list
  abbrev pub HaveMemory : List (List C) → List M → Type 0
  HaveMemory [] [] = Unit {0}
  HaveMemory [] (memory ∷ more) = ⊥
  HaveMemory (calls ∷ lists) [] = ⊥
  HaveMemory (calls ∷ lists) (memory ∷ more) = suffices calls memory × HaveMemory lists more

module _ {A R : Type 0} (keeps : A → List (Result R TreeFault) → Type 0) where
  -- each stands for its list of answers
  abbrev pub AreKept : List A → List (List (Result R TreeFault)) → Type 0
  AreKept [] [] = Unit {0}
  AreKept [] (told ∷ more) = ⊥
  AreKept (kept ∷ rest) [] = ⊥
  AreKept (kept ∷ rest) (told ∷ more) = keeps kept told × AreKept rest more

  -- each stands for no answer yet, and has room for those to its list
  abbrev pub HaveRoom : {C : Type 0} (room : A → List C → Type 0) → List A → List (List C) → Type 0
  HaveRoom room [] [] = Unit {0}
  HaveRoom room [] (calls ∷ lists) = ⊥
  HaveRoom room (kept ∷ rest) [] = ⊥
  HaveRoom room (kept ∷ rest) (calls ∷ lists) = keeps kept [] × room kept calls × HaveRoom room rest lists
