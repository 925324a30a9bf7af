-- Where the last words of a page stand: in the page's frame, or in its block, as a snapshot of the table shows both.
use Rattle.std.specs.Prelude.{◌≡◌, ◌≢◌, false, IsSome, length, List, None, Option, Some, true, ℕ}
use Rattle.vm_rule.specs.from_vm_event.Prelude.{at, EVICTED, LOCKED, mapping_of, state_of, version_of}
use Rattle.vm_rule.specs.Prelude.{frame_words, last_in, Mapping, no_block, Seat, Stored, table_words}
use Rattle.vm_rule.specs.{declared.view.Origin.Origin, declared.view.Release.Release, declared.view.Snapshot.Snapshot}

-- what the snapshot shows of page p, and of a frame
abbrev pub state_in : Origin → Snapshot → ℕ → ℕ
state_in start snapshot p = state_of ((table_words start snapshot.words).states p)

-- its version, mapping, fault word and block, and the words of a frame
abbrev pub version_in : Origin → Snapshot → ℕ → ℕ
version_in start snapshot p = version_of ((table_words start snapshot.words).states p)

abbrev pub mapping_in : Origin → Snapshot → ℕ → Option Mapping
mapping_in start snapshot p = mapping_of ((table_words start snapshot.words).translations p)

abbrev pub fault_in : Origin → Snapshot → ℕ → ℕ
fault_in start snapshot p = (table_words start snapshot.words).faults p

abbrev pub block_in : Snapshot → ℕ → Stored
block_in snapshot p = at no_block snapshot.blocks p

abbrev pub contents_in : Origin → Snapshot → ℕ → List ℕ
contents_in start snapshot f = frame_words start.size (table_words start snapshot.words).contents f

-- the page is at its last version. It is locked at most by the pass itself, whose seat this is. Where it is not
-- locked, it is resident unless it is evicted, its frame has its last words, and so has its block if the page is
-- clean; of an evicted page the block has them. The fault word is the block's count where the pass may not call the
-- page's device
pub record PageStands (start : Origin) (releases : List Release) (snapshot : Snapshot) (seat : Seat) (p : ℕ) : Type 0 where
  pub version : version_in start snapshot p ≡ (last_in start releases p).version
  pub sized : length (last_in start releases p).words ≡ start.size
  pub unlocked : seat.exclusive ≡ false → state_in start snapshot p ≢ LOCKED
  pub resident : state_in start snapshot p ≢ LOCKED → state_in start snapshot p ≢ EVICTED
      → IsSome (mapping_in start snapshot p)
  pub evicted : state_in start snapshot p ≡ EVICTED → mapping_in start snapshot p ≡ None
  pub frame : start.tells ≡ true → state_in start snapshot p ≢ LOCKED → (m : Mapping)
      → mapping_in start snapshot p ≡ Some m → contents_in start snapshot m.frame ≡ (last_in start releases p).words
  pub clean : start.tells ≡ true → state_in start snapshot p ≢ LOCKED → (m : Mapping)
      → mapping_in start snapshot p ≡ Some m → m.dirty ≡ false
      → (block_in snapshot p).words ≡ (last_in start releases p).words
  pub device : start.tells ≡ true → state_in start snapshot p ≡ EVICTED
      → (block_in snapshot p).words ≡ (last_in start releases p).words
  pub fault : seat.exclusive ≡ false → seat.writing ≡ false → fault_in start snapshot p ≡ (block_in snapshot p).count
