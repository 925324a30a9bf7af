-- What any step of a pass leaves of its view: the lists are brought up to date, the step stands in the log, and the
-- step's own changes are made.
use Rattle.std.specs.Prelude.{[], ◌++◌, ◌+◌, ◌∷◌, ◌≡◌, length, List}
use Rattle.std.specs.Prelude.{None, Option, slice_index, slice_set, Some, true, ℕ}
use Rattle.vm_block.specs.declared.stored.Stored.{Stored}
use Rattle.vm_owner.specs.{declared.Entry.Entry, Kept.entries_under}
use Rattle.vm_rule.specs.{declared.view.Did.Did, declared.view.Origin.Origin, declared.view.Release.Release}
use Rattle.vm_rule.specs.{declared.view.Snapshot.Snapshot, declared.view.View.View, Layout.index_of, Layout.width}
use Rattle.vm_rule.specs.{Layout.Within, Reading.last_in, Reading.last_of, Sound.Sound}
use Rattle.vm_rule.specs.Views.{entries_by, Hears, IsLocking, IsWhole, seat_of, StartsWith}

-- the number, if there is one, at this place of the list
abbrev pub set_if : Option ℕ → ℕ → List ℕ → List ℕ
set_if None i words = words
set_if (Some x) i words = slice_set words i x

-- the number there, if the step found one
abbrev pub IsFoundAt : Option ℕ → ℕ → List ℕ → Type 0
IsFoundAt None i words = Unit {0}
IsFoundAt (Some x) i words = x ≡ slice_index words i

-- the blocks with the one that the step changed, if it changed one
abbrev pub set_block : Option (ℕ × Stored) → List Stored → List Stored
set_block None blocks = blocks
set_block (Some b) blocks = slice_set blocks b.0 b.1

-- the table as it was known, every word of it, after this step: it found the word that was known there, and left the
-- one that it wrote, and this
-- block
pub record IsStepOf (start : Origin) (did : Did) (block : Option (ℕ × Stored)) (old new : Snapshot) : Type 0 where
  pub wide : length old.words ≡ width start
  pub found : IsFoundAt did.found (index_of start did.at) old.words
  pub words : new.words ≡ set_if did.wrote (index_of start did.at) old.words
  pub blocks : new.blocks ≡ set_block block old.blocks

module _ {X : Type 0} where
  -- the next entry under the pass's first number, with its next count
  abbrev pub entry_of : View X → X → Entry X
  entry_of v x = record { number = slice_index v.used 0; count = entries_under (slice_index v.used 0) v.mine + 1; said = x }

  -- the entries that come with what is said, if something is said
  abbrev pub entries_of : View X → Option X → List (Entry X)
  entries_of v None = []
  entries_of v (Some x) = entry_of v x ∷ []

  -- the view with both lists, the table and the step in it
  abbrev pub brought : View X → List Release → List (Entry X) → Snapshot → Did → View X
  brought v releases seen snapshot did =
      record v {
        releases = releases;
        seen = seen;
        told_releases = [];
        told = [];
        told_used = [];
        current = true;
        snapshot = snapshot;
        log = v.log ++ did ∷ [];
      }

  -- A step of the pass with the view v, which made the changes of `inner` and added these releases and entries,
  -- leaves the view w. Behind what the pass had seen of the two lists stands what others added, and then its own.
  pub record BringsWith (did : Did) (block : Option (ℕ × Stored)) (own : List Release) (entries : List (Entry X))
      (v inner w : View X) : Type 0 where
    pub between : List Release
    pub others : List (Entry X)
    pub snapshot : Snapshot
    -- the step was on a word of the table
    pub inside : Within v.start did.at
    pub view : w ≡ brought inner ((v.releases ++ between) ++ own) ((v.seen ++ others) ++ entries) snapshot did
    -- the entries of others have none of its numbers
    pub foreign : entries_by v.used others ≡ []
    -- a page that the pass has locked was released by nobody else
    pub kept : (p : ℕ) → IsLocking (seat_of v p) → last_in v.start (v.releases ++ between) p ≡ last_of v p
    -- what was learned by a join is in the lists, and those from which it was learned have made no entry since
    pub told : StartsWith (v.releases ++ between) v.told_releases × Hears (v.seen ++ others) v.told_used v.told
    -- what the rule keeps of the view
    pub sound : Sound w
    -- a pass that is alone sees its own steps only
    pub alone : IsWhole v → v.current ≡ true
        → (between ≡ []) × (others ≡ []) × IsStepOf v.start did block v.snapshot snapshot

  -- the same of a step that changes no block
  abbrev pub Brings : Did → List Release → List (Entry X) → View X → View X → View X → Type 0
  Brings did own entries v inner w = BringsWith did None own entries v inner w
