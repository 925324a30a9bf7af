-- What a merge leaves once its pages are locked: they were written and released together, and the numbers of those
-- that it freed were given.
use Rattle.std.specs.Prelude.{[], ◌++◌, ◌∷◌, ◌≡◌, List, true, ℕ}
use Rattle.vm_map.specs.declared.call.Said.{Said}
use Rattle.vm_tree_model.specs.{Layout.Layout, Tree.map_of}
use Rattle.vm_rule.specs.Prelude.{Entry, entry_of, has, IsLocking, seat_of, StartsWith}
use Rattle.vm_tree_split.specs.from_vm_step.Prelude.{HoldsPage, KnowsAsBefore, View}
use Rattle.vm_tree_split.specs.from_vm_guard.{declared_exclusive_ExclusiveGuard.ExclusiveGuard, declared_opt_OptGuard.OptGuard}
use Rattle.vm_tree_laws.specs.{History.IsLegal, Plain.plain_history}
use Rattle.vm_tree_split.specs.Prelude.{GainsEntry}
use Rattle.vm_tree_split.specs.Prepares.{guard_pages}
use Rattle.vm_tree_join.specs.{Locks.AreAllLocked, Locks.AreNumbersGiven, Merging.IsMerged}

-- the pass holds no page number that it did not hold, and has none to give that it had not: it is said where the blocks tell their words
abbrev pub GainsNoNumber : {X : Type 0} → View X → View X → Type 0
GainsNoNumber v w = v.start.tells ≡ true → (q : ℕ) → (has q w.numbers ≡ true → has q v.numbers ≡ true)
    × (has q w.freed ≡ true → has q v.freed ≡ true)

-- the pass holds the locks and frames that it held, and knows under them what it knew; its steps and what it has seen go on
pub record HoldsAll {X : Type 0} (v w : View X) : Type 0 where
  pub start : w.start ≡ v.start
  pub parts : (w.used ≡ v.used) × (w.fresh ≡ v.fresh)
  pub seen : StartsWith w.seen v.seen
  pub releases : StartsWith w.releases v.releases
  pub log : StartsWith w.log v.log
  pub notes : w.notes ≡ v.notes
  pub out : w.out ≡ v.out
  pub frames : w.frames ≡ v.frames
  pub group : (w.pending ≡ v.pending) × (w.owed ≡ v.owed)
  pub numbers : GainsNoNumber v w
  pub holds : (q : ℕ) → HoldsPage v w q
  pub knows : (q : ℕ) → IsLocking (seat_of v q) → KnowsAsBefore v w q
  pub current : w.current ≡ true

module _ {S : Type 0} (plain : S → Said) (L : Layout) where
  -- The pages of these guards were locked, written and released together, with what is said, which frees these pages;
  -- then their numbers were given. What is said is
  -- the pass's next entry; behind it the pass has seen `more`, which others said since. Where blocks tell their words
  -- the history up to some point behind the entry is legal
  pub record IsMergeMade (gs : List OptGuard) (freed : List ℕ) (says : S) (v w : View S) : Type 0 where
    pub guards : List ExclusiveGuard
    pub locked : View S
    pub locks : AreAllLocked L gs guards v locked
    pub released : View S
    pub merged : IsMerged plain L (guard_pages gs) freed says locked released
    pub given : AreNumbersGiven freed released w
    pub holds : HoldsAll v w
    pub mine : w.mine ≡ v.mine ++ entry_of v says ∷ []
    pub more : List (Entry S)
    pub entry : GainsEntry says v more w
    pub legal : v.start.tells ≡ true → (later rest : List (Entry S)) × (more ≡ later ++ rest)
        × IsLegal (map_of L v.start.contents) (plain_history plain ((v.seen ++ entry.0) ++ entry_of v says ∷ later))
