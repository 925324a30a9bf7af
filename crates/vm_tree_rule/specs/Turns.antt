-- Why a descent ended without its leaf, by the steps of its call.
use Rattle.std.specs.Prelude.{[], ◌++◌, ◌<◌, ◌∷◌, ◌≡◌, ◌≢◌, ◌≤◌, ◌⊎◌, false, List, None, true, ℕ}
use Rattle.vm_tree_model.specs.{Layout.Layout, Node.Covers, Page.node_of}
use Rattle.vm_node.specs.Loads.{IsPageWith}
use Rattle.vm_rule.specs.Prelude.{last_of, loads_at}
use Rattle.vm_step.specs.Prelude.{Did, NeedsPage, NoneExpected, NoWord, View}
use Rattle.vm_step.specs.declared.saw.Saw.{Saw}
use Rattle.vm_kind.specs.from_vm_guard.{declared_deny_Deny.Deny, Guards.IsValid}
use Rattle.vm_kind.specs.from_vm_guard.declared_deny_Deny_TheVariants as denies
use Rattle.vm_kind.specs.from_vm_guard.Denied.{AgainOrNeed, IsDenied, KeptWord}
use Rattle.vm_tree_laws.specs.Tied.{Tied}
use Rattle.vm_tree_rule.specs.{declared.turn.Turn.Turn, Leaves.LeavesWord, Leaves.ReadsOn, Seeks.HasLoaded}
use Rattle.vm_tree_rule.specs.{Seeks.TellChild, Shown.IsAgain, Ways.IsOnWay, Ways.TellNoNode}
use Rattle.vm_tree_rule.specs.declared.turn.Turn.TheVariants as turns
use Rattle.vm_tree_rule.specs.Standing.{IsOpened, NamesForKey, Sees}

-- a look at a page that was denied ends the call so
abbrev pub IsTurnOf : Deny → Turn → Type 0
IsTurnOf (denies.Again saw) turn = turn ≡ turns.Again saw
IsTurnOf (denies.Need p) turn = turn ≡ turns.Need p
IsTurnOf (denies.Crowded p) turn = ⊥
IsTurnOf (denies.Worn p) turn = ⊥

-- page r of so many pages can't name this one
abbrev pub IsNoChild : ℕ → ℕ → ℕ → Type 0
IsNoChild pages r named = (named ≡ 0) ⊎ ((pages ≤ named) ⊎ (named ≡ r))

-- an image of so many pages has no page but 0 of this number
abbrev pub IsNoPage : ℕ → ℕ → Type 0
IsNoPage pages named = (named ≡ 0) ⊎ (pages ≤ named)

-- each page that has the words loaded is a leaf that covers the key
abbrev pub TellLeaf : Layout → List (ℕ × ℕ) → ℕ → Type 0
TellLeaf L loaded key = (words : List ℕ) → IsPageWith L.words loaded words → ((node_of L words).tag ≡ 2) × Covers (node_of L words) key

module _ {X : Type 0} (L : Layout) where
  -- what was loaded of page r names page p for the key: words 1 and 2 of page 0, or words of a node, in which a search finds it
  abbrev pub LoadsName : View X → ℕ → ℕ → ℕ → Type 0
  LoadsName w r key p =
      ((r ≡ 0) × ((before : List (ℕ × ℕ)) × (level : ℕ) × (loads_at w r ≡ before ++ (1, p) ∷ (2, level) ∷ [])))
      ⊎ ((loaded : List (ℕ × ℕ)) × HasLoaded w r loaded × TellChild L loaded key p)

  -- the call ended with the validation of a page: what was loaded of it names page p for the key, and so do its words
  -- where blocks tell theirs
  pub record IsNamed (v : View X) (key p : ℕ) (w : View X) : Type 0 where
    pub parent : ℕ
    pub word : ℕ
    pub frame : ℕ
    pub before : View X
    pub reads : ReadsOn v before
    pub valid : IsValid (Tied L) parent word frame None before w
    pub loads : LoadsName w parent key p
    pub names : v.start.tells ≡ true → NamesForKey L parent (last_of w parent).words key p

  -- the call found page p evicted, and had not left that word; it is page 0, or the page that was validated afterwards names it for the key
  pub record IsNeeded (v : View X) (key p : ℕ) (w : View X) : Type 0 where
    pub done : List Did
    pub log : w.log ≡ v.log ++ done
    pub needs : NeedsPage done p
    pub inside : p < v.start.pages
    pub named : (p ≡ 0) ⊎ IsNamed v key p w

  -- What is wrong with page p, by words of it that were loaded: as page 0 it names no root inside the image; or it was
  -- reached on the way of the key, at a level and with fences, but names a child for the key outside the image; or no
  -- page that has these words is a node of that level with those fences
  pub data WhyDamaged (v : View X) (key p : ℕ) (w : View X) : Type 0 where
    rootless : (before : List (ℕ × ℕ)) (root level : ℕ) → p ≡ 0 → loads_at w p ≡ before ++ (1, root) ∷ (2, level) ∷ []
        → IsNoPage w.start.pages root → WhyDamaged v key p w
    childless : (level low high named : ℕ) (loaded : List (ℕ × ℕ)) → IsOnWay L v key p level low high w
        → HasLoaded w p loaded → TellChild L loaded key named → IsNoPage w.start.pages named → WhyDamaged v key p w
    other : (level low high : ℕ) (loaded : List (ℕ × ℕ)) → IsOnWay L v key p level low high w → HasLoaded w p loaded
        → TellNoNode L loaded level low high → WhyDamaged v key p w

  -- Page p was read in this call and then validated, and its words are not what the way to it says, for this reason:
  -- so blocks do not tell their words
  pub record IsDamaged (v : View X) (key p : ℕ) (w : View X) : Type 0 where
    pub untold : v.start.tells ≡ false
    pub word : ℕ
    pub frame : ℕ
    pub found : View X
    pub opened : IsOpened v p word frame found
    pub valid : IsValid (Tied L) p word frame None found w
    pub why : WhyDamaged v key p w

  -- the call only read, and ended for this reason
  abbrev pub IsTurnedBack : View X → ℕ → Turn → View X → Type 0
  IsTurnedBack v key (turns.Again saw) w = ReadsOn v w × IsAgain v saw w
  IsTurnedBack v key (turns.Need p) w = ReadsOn v w × IsNeeded v key p w
  IsTurnedBack v key (turns.Damaged p) w = ReadsOn v w × IsDamaged v key p w

  -- a step from page r, whose read began at this word, to the page that it names ended without that page: page r was
  -- validated, but the named page
  -- could not be read, or is none of the tree's; or page r was not validated
  pub data IsStopped (r word frame named : ℕ) (turn : Turn) (v w : View X) : Type 0 where
    denied : (saw : Saw) (x : View X) → turn ≡ turns.Again saw → IsDenied AgainOrNeed NoWord NoneExpected named
        (denies.Again saw) v x → IsValid (Tied L) r word frame None x w → IsStopped r word frame named turn v w
    refused : (saw : Saw) (x : View X) → turn ≡ turns.Again saw → ReadsOn v x → LeavesWord r v x
        → IsDenied AgainOrNeed (KeptWord word) NoneExpected r (denies.Again saw) x w
        → IsStopped r word frame named turn v w
    missing : (x : View X) → turn ≡ turns.Need named → IsDenied AgainOrNeed NoWord NoneExpected named
        (denies.Need named) v x → IsValid (Tied L) r word frame None x w
        → (v.start.tells ≡ true → Sees L v r word (last_of w r).words) → named < v.start.pages → named ≢ r
        → IsStopped r word frame named turn v w
    damaged : turn ≡ turns.Damaged r → v.start.tells ≡ false → IsValid (Tied L) r word frame None v w
        → IsNoChild v.start.pages r named → IsStopped r word frame named turn v w
