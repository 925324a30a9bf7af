-- Why calls had no reply.
use Rattle.std.specs.Prelude.{[], ◌+◌, ◌<◌, ◌==◌, ◌∷◌, ◌≡◌, Err, false, if◌then◌else◌, List, Ok, Result, ℕ}
use Rattle.vm_step.specs.Prelude.{Note, View}
use Rattle.vm_tree_range.specs.from_vm_tree_rule.declared_fault_TreeFault.{TreeFault}
use Rattle.vm_tree_range.specs.from_vm_tree_rule.declared_fault_TreeFault_TheVariants.{Damaged, Device, Full, Worn}
use Rattle.vm_calls.specs.Calling.{Calling}

-- how many notes are of page p
abbrev pub notes_about : ℕ → List Note → ℕ
notes_about p [] = 0
notes_about p (n ∷ ns) = (if n.page == p then 1 else 0) + notes_about p ns

-- page p is one of the table's, and blocks do not tell their words, so a tree's words need not stand there
abbrev pub IsUntold : {X : Type 0} → View X → ℕ → Type 0
IsUntold v p = (v.start.tells ≡ false) × (p < v.start.pages)

module _ {R : Type 0} where
  -- 1 for an answer that the device of page p failed
  abbrev pub is_fault : ℕ → Result R TreeFault → ℕ
  is_fault p (Ok reply) = 0
  is_fault p (Err (Device q count)) = if q == p then 1 else 0
  is_fault p (Err (Full pages)) = 0
  is_fault p (Err (Worn q)) = 0
  is_fault p (Err (Damaged q)) = 0

  -- how many answers say that the device of page p failed
  abbrev pub faults_of : ℕ → List (Result R TreeFault) → ℕ
  faults_of p [] = 0
  faults_of p (r ∷ rs) = is_fault p r + faults_of p rs

module _ {X C R P : Type 0} (k : Calling X C R P) where
  -- the cause of an answer: `full` of a call that may fill an image of so many pages, `worn` or `damaged` of a page. Faults of devices are counted
  abbrev pub CausedBy : (full worn damaged : ℕ → Type 0) → C → Result R TreeFault → Type 0
  CausedBy full worn damaged call (Ok reply) = Unit {0}
  CausedBy full worn damaged call (Err (Device p count)) = Unit {0}
  CausedBy full worn damaged call (Err (Full pages)) = k.may_fill call × full pages
  CausedBy full worn damaged call (Err (Worn p)) = worn p
  CausedBy full worn damaged call (Err (Damaged p)) = damaged p

  -- the causes of a list's answers
  abbrev pub AreCausedBy : (full worn damaged : ℕ → Type 0) → List C → List (Result R TreeFault) → Type 0
  AreCausedBy full worn damaged [] rs = Unit {0}
  AreCausedBy full worn damaged (c ∷ cs) [] = Unit {0}
  AreCausedBy full worn damaged (c ∷ cs) (r ∷ rs) = CausedBy full worn damaged c r × AreCausedBy full worn damaged cs rs
