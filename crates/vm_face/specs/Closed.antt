-- What a store comes to that was opened on pages, and closed.
use Rattle.std.specs.Prelude.{◌≡◌, ◌≤◌, Bool, List, true, ℕ}
use Rattle.vm_map.specs.{declared.call.Said.Said, History.after_all}
use Rattle.vm_tree_model.specs.{Fixed.fixed, Tree.IsTree, Tree.map_of}
use Rattle.vm_step.specs.Prelude.{View}
use Rattle.vm_tree_laws.specs.History.{IsLegal, saids}
use Rattle.vm_face.specs.declared.store.Closing.{Closing}
use Rattle.vm_face.specs.declared.store.Closing.TheVariants as closings

-- the store's pass with this view began on these pages, where blocks tell their words, and has made no entry
pub record IsStoreOpened (tells : Bool) (pages : List (List ℕ)) (v : View Said) : Type 0 where
  pub began : tells ≡ true → v.start.contents ≡ pages
  pub telling : v.start.tells ≡ tells

-- The store whose pass had the view v was closed, and its blocks held these words then. The history of all hands goes on
-- from what the pass knew with no entry more, and is legal from the map of the pages on that the store began with; and
-- where each write was done, the words are a tree whose map is the history's last one
pub record IsClosedOn (n : ℕ) (tells : Bool) (failed : ℕ) (words : List (List ℕ)) (v : View Said) : Type 0 where
  pub legal : tells ≡ true → IsLegal (map_of (fixed n) v.start.contents) v.seen
  pub all : v.mine ≡ v.seen
  pub saved : tells ≡ true → failed ≡ 0 → IsTree (fixed n) words
      × (map_of (fixed n) words ≡ after_all (map_of (fixed n) v.start.contents) (saids v.seen))

-- the store comes back where so many hands are out, or none but somebody has a share of its pool
abbrev pub IsNotClosed : {T : Type 0} → T → (out : ℕ) → Closing T → Type 0
IsNotClosed store out (closings.Hands back) = (back ≡ store) × (1 ≤ out)
IsNotClosed store out (closings.Shared back) = (back ≡ store) × (out ≡ 0)
IsNotClosed store out closings.Memory = out ≡ 0
