-- What a split of a full node does: its pages are locked, written and released together.
use Rattle.std.specs.Prelude.{[], ◌++◌, ◌<◌, ◌∷◌, ◌≡◌, ◌≤◌, ◌⊎◌, false, length, List, None, replicate, slice_index, Some, true, ℕ}
use Rattle.vm_page.specs.Pages.{all_zero}
use Rattle.vm_map.specs.declared.call.Said.{Said}
use Rattle.vm_tree_model.specs.{Edits.child_of, Layout.Layout, Node.Covers}
use Rattle.vm_tree_model.specs.Page.{IsInner, IsLeaf, node_of}
use Rattle.vm_rule.specs.declared.view.WordPlace.{WordPlace}
use Rattle.vm_rule.specs.Prelude.{AreApart, began_of, changes_of, draft_of, Each, has, IsLocking, last_of, seat_of, StartsWith, without_all}
use Rattle.vm_step.specs.Prelude.{Did, HoldsPage, IsAlone, KeepsNumbers, KnowsAsBefore, StaysAlone, View}
use Rattle.vm_tree_read.specs.from_vm_guard.declared_exclusive_ExclusiveGuard.{ExclusiveGuard}
use Rattle.vm_tree_read.specs.from_vm_guard.Groups.{AreReleased, GuardsHeld, pids_of}
use Rattle.vm_tree_laws.specs.Plain.{ReleasesPlain}
use Rattle.vm_tree_draft.specs.{Drafts.IsDraftPlace, Drafts.KnowsSameStates, PageNumbers.GainsWorn}

-- the place is one at which the page of one of these guards is drafted
abbrev pub IsDrafted : List ExclusiveGuard → WordPlace → Type 0
IsDrafted [] at = ⊥
IsDrafted (g ∷ gs) at = IsDraftPlace g.pid g.frame at ⊎ IsDrafted gs at

module _ {X : Type 0} where
  -- a fresh page is the pass's to use: it is owed to the pass, or the pass holds its number
  abbrev pub MayUse : ℕ → View X → Type 0
  MayUse p v = (has p v.owed ≡ true) ⊎ (has p v.numbers ≡ true)

  -- page p, which the pass holds, has these last words, and this draft
  pub record HasDraft (p : ℕ) (old new : List ℕ) (v : View X) : Type 0 where
    pub last : (last_of v p).words ≡ old
    pub draft : draft_of v p ≡ new

  -- The pass holds just the locks that it held, and made no entry. Its steps left words where the pages of these
  -- guards are drafted, and nowhere else:
  -- they locked and released nothing, and wrote no other page. So a pass that is alone finds all pages' words, and
  -- knows the table's state words,
  -- and the next one, as before
  pub record Stays (gs : List ExclusiveGuard) (v w : View X) : Type 0 where
    pub done : List Did
    pub log : w.log ≡ v.log ++ done
    pub steps : Each (λ d. (x : ℕ) → d.wrote ≡ Some x → IsDrafted gs d.at) done
    pub alone : StaysAlone v w
    pub known : KnowsSameStates v w
    pub knows : (q : ℕ) → has q (pids_of gs) ≡ false → IsLocking (seat_of v q) → KnowsAsBefore v w q
    pub start : w.start ≡ v.start
    pub parts : (w.used ≡ v.used) × (w.fresh ≡ v.fresh)
    pub mine : w.mine ≡ v.mine
    pub seen : StartsWith w.seen v.seen
    pub releases : StartsWith w.releases v.releases
    pub notes : w.notes ≡ v.notes
    pub frames : w.frames ≡ v.frames
    pub out : w.out ≡ v.out
    pub group : (w.pending ≡ v.pending) × (w.owed ≡ v.owed) × (w.next ≡ v.next)
    pub numbers : KeepsNumbers v w
    pub holds : (q : ℕ) → HoldsPage v w q
    -- the last words of the pages that it holds exclusively are as they were
    pub last : (q : ℕ) → (seat_of v q).exclusive ≡ true → last_of w q ≡ last_of v q

  -- these pages, which the pass held exclusively, were released; it made no entry, and holds all else that it held
  pub record IsGroupDone (pages : List ℕ) (v w : View X) : Type 0 where
    pub start : w.start ≡ v.start
    pub parts : (w.used ≡ v.used) × (w.fresh ≡ v.fresh)
    pub mine : w.mine ≡ v.mine
    pub seen : StartsWith w.seen v.seen
    pub releases : StartsWith w.releases v.releases
    pub notes : w.notes ≡ v.notes
    pub log : StartsWith w.log v.log
    pub frames : w.frames ≡ v.frames
    pub out : w.out ≡ v.out
    pub pending : w.pending ≡ v.pending
    pub owed : w.owed ≡ without_all pages v.owed
    -- it holds the number of none of them, and none that it did not hold; and no page was freed
    pub numbers : v.start.tells ≡ true
        → ((q : ℕ) → has q w.numbers ≡ true → (has q pages ≡ false) × (has q v.numbers ≡ true)) × (w.freed ≡ v.freed)
    pub next : (q : ℕ) → w.next ≡ Some q → v.next ≡ Some q
    pub holds : (q : ℕ) → has q pages ≡ false → HoldsPage v w q
    pub knows : (q : ℕ) → has q pages ≡ false → IsLocking (seat_of v q) → KnowsAsBefore v w q
    -- the pass knows the table; where it was alone it finds the last words of each other page as they were
    pub current : w.current ≡ true
    pub alone : IsAlone v → (q : ℕ) → has q pages ≡ false → (last_of w q).words ≡ (last_of v q).words
    pub released : (q : ℕ) → has q pages ≡ true → ((seat_of w q).shares ≡ (seat_of v q).shares)
        × ((seat_of w q).exclusive ≡ false) × ((seat_of w q).writing ≡ (seat_of v q).writing)

module _ {X : Type 0} (L : Layout) where
  -- a node, its parent and a fresh page have these words, and the key leads from the parent to the node
  pub record AreToSplit (up low right : ℕ) (over page : List ℕ) (v : View X) : Type 0 where
    pub above : HasDraft up over over v
    pub node : HasDraft low page page v
    pub kind : IsLeaf L page ⊎ IsInner L page
    pub fresh : HasDraft right (replicate L.words 0) (replicate L.words 0) v
    pub inner : IsInner L over
    pub names : (key : ℕ) × Covers (node_of L over) key × (child_of L over key ≡ Some low)

  -- page 0 names the root at this height, the root has these words, and the fresh pages have none
  pub record IsRootToSplit (meta low right top : ℕ) (height : ℕ) (page : List ℕ) (v : View X) : Type 0 where
    pub names : (slice_index (last_of v meta).words 1 ≡ low) × (slice_index (last_of v meta).words 2 ≡ height)
    pub claimed : all_zero (last_of v meta).words ≡ false
    pub node : HasDraft low page page v
    pub kind : IsLeaf L page ⊎ IsInner L page
    pub fresh : HasDraft right (replicate L.words 0) (replicate L.words 0) v × HasDraft top (replicate L.words 0) (replicate L.words 0) v

module _ {X : Type 0} (L : Layout) (spare : List ℕ → ℕ) where
  -- the pass holds a full node, its parent with room, and a fresh page; and where blocks tell their words these are
  -- the pages' words, and the key
  -- leads from the parent to the node
  pub record CanSplit (up low right : ExclusiveGuard) (over page : List ℕ) (v : View X) : Type 0 where
    pub home : v.out ≡ None
    pub held : GuardsHeld v (up ∷ low ∷ right ∷ [])
    pub apart : AreApart (up.pid ∷ low.pid ∷ right.pid ∷ [])
    pub usable : v.start.tells ≡ true → MayUse right.pid v
    pub room : L.growth ≤ spare over
    pub full : spare page < L.growth
    pub told : v.start.tells ≡ true → AreToSplit L up.pid low.pid right.pid over page v

  -- the pass holds page 0, the full root that it names at this height, and two fresh pages; what is said of words
  -- holds where blocks tell theirs
  pub record CanSplitRoot (meta low right top : ExclusiveGuard) (height : ℕ) (page : List ℕ) (v : View X) : Type 0 where
    pub home : v.out ≡ None
    pub held : GuardsHeld v (meta ∷ low ∷ right ∷ top ∷ [])
    pub apart : AreApart (meta.pid ∷ low.pid ∷ right.pid ∷ top.pid ∷ [])
    pub zero : meta.pid ≡ 0
    pub same : draft_of v meta.pid ≡ (last_of v meta.pid).words
    pub usable : v.start.tells ≡ true → MayUse right.pid v × MayUse top.pid v
    pub full : spare page < L.growth
    pub told : v.start.tells ≡ true → IsRootToSplit L meta.pid low.pid right.pid top.pid height page v

module _ {S : Type 0} (plain : S → Said) (L : Layout) where
  -- These pages were written and released as a group, with no entry: drafts were set, no page's last words changed,
  -- and in the view `held` the drafts
  -- are a split of the tree, where blocks tell their words
  pub record IsSplitUp (pages : List ℕ) (v w : View S) : Type 0 where
    pub held : View S
    pub first : ExclusiveGuard
    pub rest : List ExclusiveGuard
    pub stays : Stays (first ∷ rest) v held
    pub pids : pids_of (first ∷ rest) ≡ pages
    pub several : (length rest ≡ 2) ⊎ (length rest ≡ 3)
    pub released : AreReleased first rest None held w
    pub may : held.start.tells ≡ true → ReleasesPlain plain L (began_of held.start) held.owed (changes_of held pages) []
    pub done : IsGroupDone pages v w

-- a try of a split left this, whatever it answered: the pass holds just the locks that it held, and made no entry
pub record KeepsLocksOnly {X : Type 0} (v w : View X) : Type 0 where
  pub start : w.start ≡ v.start
  pub parts : (w.used ≡ v.used) × (w.fresh ≡ v.fresh)
  pub mine : w.mine ≡ v.mine
  pub seen : StartsWith w.seen v.seen
  pub releases : StartsWith w.releases v.releases
  pub notes : StartsWith w.notes v.notes
  pub log : StartsWith w.log v.log
  pub out : w.out ≡ v.out
  pub pending : w.pending ≡ v.pending
  pub owed : w.owed ≡ v.owed
  -- it holds no page number more, but for those of pages at the last version
  pub numbers : GainsWorn v w
  -- it knows the next page at most where it knew it, or held it
  pub next : (q : ℕ) → w.next ≡ Some q → (v.next ≡ Some q) ⊎ ((seat_of v q).exclusive ≡ true)
  pub holds : (q : ℕ) → HoldsPage v w q
  -- what it knows of a page that it had locked is as it was; and where it knew the table it knows it
  pub knows : (q : ℕ) → IsLocking (seat_of v q) → KnowsAsBefore v w q
  pub current : v.current ≡ true → w.current ≡ true
