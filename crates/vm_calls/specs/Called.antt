-- What an answer comes to in the terms of a worker's pass: its entry, its note, or what its steps found; and what is asked of a kind of calls.
use Rattle.std.specs.Prelude.{[], ◌++◌, ◌+◌, ◌<◌, ◌∷◌, ◌≡◌, ◌≤◌, Err, List, Ok, Result, ℕ}
use Rattle.vm_event.specs.Prelude.{MAX_VERSION, version_of}
use Rattle.vm_rule.specs.Prelude.{began_of, entry_of, Kept, Start, StartsWith}
use Rattle.vm_rule.specs.declared.view.WordPlace.TheVariants as places
use Rattle.vm_step.specs.Prelude.{HasGiven, Note, Origin, View}
use Rattle.vm_tree_range.specs.from_vm_tree_rule.declared_fault_TreeFault.{TreeFault}
use Rattle.vm_tree_range.specs.from_vm_tree_rule.declared_fault_TreeFault_TheVariants.{Damaged, Device, Full, Worn}
use Rattle.vm_calls.specs.{Calling.Calling, Keeps.KeepsPass, Causes.IsUntold}

module _ {X : Type 0} where
  -- a step of the pass found the state word of this page of the table at the last version
  pub record HasFoundWorn (p : ℕ) (v : View X) : Type 0 where
    pub inside : p < v.start.pages
    pub word : ℕ
    pub given : HasGiven v.log (places.State p) word
    pub last : version_of word ≡ MAX_VERSION

  -- a step of the pass found this next word, or a later one
  pub record HasFoundNext (least : ℕ) (v : View X) : Type 0 where
    pub found : ℕ
    pub given : HasGiven v.log places.Next found
    pub high : least ≤ found + 1

  -- the pass found the page at the last version
  abbrev pub FoundWorn : View X → ℕ → Type 0
  FoundWorn v p = HasFoundWorn p v

  -- the pass found the image of so many pages used up
  abbrev pub FoundFull : View X → ℕ → Type 0
  FoundFull v pages = (pages ≡ v.start.pages) × HasFoundNext pages v

  -- among the notes that are new there is this one
  pub record HasNoted (p count : ℕ) (v w : View X) : Type 0 where
    pub before : List Note
    pub after : List Note
    pub grew : w.notes ≡ v.notes ++ (before ++ record { page = p; count = count } ∷ after)

-- the pass has one entry more of its own, which says the call with its reply
pub record HasEntered {X C R P : Type 0} (k : Calling X C R P) (call : C) (reply : R) (v w : View X) : Type 0 where
  pub says : X
  pub says_is : k.plain says ≡ k.said call reply
  pub mine : w.mine ≡ v.mine ++ entry_of v says ∷ []

module _ {X C R P : Type 0} (k : Calling X C R P) where
  -- what the answer says: a reply became an entry of the pass, its next one, and shows what it does; a fault has none, and its cause
  abbrev pub IsCalled : C → Result R TreeFault → View X → View X → Type 0
  IsCalled call (Ok reply) v w = HasEntered k call reply v w × k.shows w call reply
  IsCalled call (Err (Device p count)) v w = (w.mine ≡ v.mine) × HasNoted p count v w
  IsCalled call (Err (Full pages)) v w = (w.mine ≡ v.mine) × k.may_fill call × (pages ≡ v.start.pages) × HasFoundNext pages w
  IsCalled call (Err (Worn p)) v w = (w.mine ≡ v.mine) × HasFoundWorn p w
  IsCalled call (Err (Damaged p)) v w = (w.mine ≡ v.mine) × IsUntold w p

  -- What is asked of a kind of calls, over pages of which so much is kept: what is told of a call comes to that; what a reply shows it shows later
  -- too; and where the pages are kept so the history is right
  pub record AreCalls (keeps : Start → Kept X → Type 0) : Type 0 where
    pub called : (c : C) (r : Result R TreeFault) (v w : View X) → k.tells c r v w → KeepsPass v w × IsCalled c r v w
    pub shown : (v w : View X) → w.start ≡ v.start → StartsWith w.seen v.seen → StartsWith w.releases v.releases
        → (c : C) (r : R) → k.shows v c r → k.shows w c r
    pub legal : (start : Origin) (kept : Kept X) → keeps (began_of start) kept → k.legal start kept.history
