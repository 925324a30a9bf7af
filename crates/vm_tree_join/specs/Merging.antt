-- What a merge of two leaves does: a key goes out of one of them, the left one takes over what both have then, the
-- parent names the right one no more, and the right
-- one's page is zeroed. All pages concerned are locked, written and released together.
use Rattle.std.specs.Prelude.{[], ◌++◌, ◌∷◌, ◌≡◌, false, List, None, replicate, slice_set, Some, true, ℕ}
use Rattle.vm_page.specs.Pages.{all_zero}
use Rattle.vm_map.specs.declared.call.Said.{Said}
use Rattle.vm_owner.specs.Kept.{Change}
use Rattle.vm_tree_model.specs.Layout.{Layout}
use Rattle.vm_rule.specs.Prelude.{AreApart, began_of, changes_of, draft_of, entries_of, last_of}
use Rattle.vm_tree_split.specs.from_vm_step.Prelude.{IsKeptNow, View}
use Rattle.vm_tree_split.specs.from_vm_guard.declared_exclusive_ExclusiveGuard.{ExclusiveGuard}
use Rattle.vm_tree_split.specs.from_vm_guard.Groups.{AreReleased, GuardsHeld, last_pid, pids_of}
use Rattle.vm_tree_laws.specs.May.{MayCollapse, MayMerge}
use Rattle.vm_tree_laws.specs.Plain.{KeepsPlain, ReleasesPlain}
use Rattle.vm_tree_split.specs.from_vm_tree_draft.Splits.{HasDraft, Stays}

-- a page with its words before and after
abbrev pub page_change : ℕ → List ℕ → List ℕ → Change
page_change page old new = record { page = page; old = old; new = new }

module _ {X : Type 0} (L : Layout) where
  -- The pass holds a parent and two leaves. Where blocks tell their words these are the pages' words, and the
  -- parent's afterwards, `above`, and the left leaf's, `joined`,
  -- are those of a merge that takes out what is said
  pub record CanMerge (up left right : ExclusiveGuard) (over above first joined second : List ℕ) (said : Said) (v : View X) : Type 0 where
    pub home : v.out ≡ None
    pub held : GuardsHeld v (up ∷ left ∷ right ∷ [])
    pub apart : AreApart (up.pid ∷ left.pid ∷ right.pid ∷ [])
    pub drafts : v.start.tells ≡ true → HasDraft up.pid over over v × HasDraft left.pid first first v × HasDraft right.pid second second v
    pub merge : v.start.tells ≡ true → MayMerge L (page_change up.pid over above) (page_change left.pid first joined)
        (page_change right.pid second (replicate L.words 0)) said

  -- The same of page 0, the root that it names, and the root's two leaves: afterwards page 0 names the left one as the root
  pub record CanCollapse (meta root left right : ExclusiveGuard) (over first joined second : List ℕ) (said : Said)
      (v : View X) : Type 0 where
    pub home : v.out ≡ None
    pub held : GuardsHeld v (meta ∷ root ∷ left ∷ right ∷ [])
    pub apart : AreApart (meta.pid ∷ root.pid ∷ left.pid ∷ right.pid ∷ [])
    pub zero : meta.pid ≡ 0
    pub same : draft_of v meta.pid ≡ (last_of v meta.pid).words
    pub used : v.start.tells ≡ true → all_zero (last_of v meta.pid).words ≡ false
    pub drafts : v.start.tells ≡ true → HasDraft root.pid over over v × HasDraft left.pid first first v × HasDraft right.pid second second v
    pub merge : v.start.tells ≡ true
        → MayCollapse L (page_change meta.pid (last_of v meta.pid).words
        (slice_set (slice_set (last_of v meta.pid).words 1 left.pid) 2 0))
        (page_change root.pid over (replicate L.words 0))
        (page_change left.pid first joined) (page_change right.pid second (replicate L.words 0)) said

module _ {S : Type 0} (plain : S → Said) (L : Layout) where
  -- These pages were written and released as a group, and what is said became an entry at its first release: drafts
  -- were set before, no page's last words page_change then, and in the
  -- view `held` the drafts are a merge, where blocks tell their words. The pass has then the numbers of these freed
  -- pages to give, beside those that it had
  pub record IsMerged (pages freed : List ℕ) (said : S) (v w : View S) : Type 0 where
    pub held : View S
    pub first : ExclusiveGuard
    pub rest : List ExclusiveGuard
    pub stays : Stays (first ∷ rest) v held
    pub pids : pids_of (first ∷ rest) ≡ pages
    pub released : AreReleased first rest (Some said) held w
    pub may : held.start.tells ≡ true → ReleasesPlain plain L (began_of held.start) held.owed (changes_of held pages)
        (entries_of held (Some said))
    pub kept : held.start.tells ≡ true → IsKeptNow (KeepsPlain plain L) first.pid (Unit {0}) released.point
        × IsKeptNow (KeepsPlain plain L) (last_pid first rest) (Unit {0}) w
    pub to_give : v.start.tells ≡ true → w.freed ≡ freed ++ v.freed
