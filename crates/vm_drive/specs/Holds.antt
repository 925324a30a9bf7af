-- The history holds each worker's calls once, in order, with their replies.
use Rattle.std.specs.Prelude.{[], ◌<◌, ◌∷◌, ◌≡◌, length, List, Result, slice_index_or, ℕ}
use Rattle.vm_rule.specs.Prelude.{Each, entries_by, Entry}
use Rattle.vm_calls.specs.from_vm_tree_rule.declared_fault_TreeFault.{TreeFault}
use Rattle.vm_calls.specs.Calling.{answered, said_in}

-- one worker's list
abbrev pub list_at : {A : Type 0} → List (List A) → ℕ → List A
list_at lists w = slice_index_or lists w []

-- what the entries of a number say, in order
abbrev pub said_by : {X P : Type 0} → (X → P) → ℕ → List (Entry X) → List P
said_by plain number h = said_in plain (entries_by (number ∷ []) h)

-- the entries are those of the workers, each under a number of its own
pub record HoldsCalls {X C R P : Type 0} (plain : X → P) (said : C → R → P) (h : List (Entry X)) (lists : List (List C))
    (answers : List (List (Result R TreeFault))) : Type 0 where
  pub numbers : ℕ → ℕ
  pub apart : (v w : ℕ) → v < length lists → w < length lists → numbers v ≡ numbers w → v ≡ w
  pub lists_long : length answers ≡ length lists
  pub each_long : (w : ℕ) → w < length lists → length (list_at answers w) ≡ length (list_at lists w)
  pub each : (w : ℕ) → w < length lists → said_by plain (numbers w) h ≡ answered said (list_at lists w) (list_at answers w)
  pub only : Each (λ e. (w : ℕ) × (w < length lists) × (e.number ≡ numbers w)) h
