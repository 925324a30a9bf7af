-- The phases of an eviction, by the steps of the call: all dirty candidates are shared from their word and written;
-- then the clean ones are locked
-- exclusively; then the written ones become exclusive from one share; then all are taken out of their frames; then
-- all are released as evicted.
-- No step is on another word than those of the candidates and the owner words of their frames.
use Rattle.std.specs.Prelude.{length, List, None, slice_index_or, ℕ, ◌++◌, ◌+◌, ◌-◌, ◌<◌, ◌^◌, ◌≡◌, ◌⊎◌}
use Rattle.vm_event.specs.Prelude.{EVICTED, LOCKED, trans_word, version_of, word_of}
use Rattle.vm_rule.specs.Prelude.{did_change, did_exchange, did_load, did_store, Each}
use Rattle.vm_rule.specs.declared.view.WordPlace.TheVariants as places
use Rattle.vm_supply.specs.from_vm_step.Prelude.{Did}
use Rattle.vm_evict.specs.{declared.candidate.Phase.Phase, Writes.WritesPage}
use Rattle.vm_evict.specs.declared.candidate.Phase.TheVariants as phases

-- a step that gives up a share of page p
abbrev pub GivesUp : ℕ → Did → Type 0
GivesUp p d = (found : ℕ) × (d ≡ did_change (places.State p) found (found - 2 ^ 56))

-- a dirty page is shared from its word, written, and made clean; or the share is given up
pub data Saves (c : ℕ × ℕ) (d : Did) : Type 0 where
  writes : WritesPage c.0 d → Saves c d
  shares : (found : ℕ) → d ≡ did_exchange (places.State c.0) c.1 found (word_of 1 (version_of c.1)) → Saves c d
  gives_up : GivesUp c.0 d → Saves c d

-- a clean page is locked exclusively from its word, or the exchange is lost
abbrev pub Locks : ℕ × ℕ → Did → Type 0
Locks c d = (found : ℕ) × (d ≡ did_exchange (places.State c.0) c.1 found (word_of LOCKED (version_of c.1)))

-- one share at the word's version becomes exclusive; or the exchange is lost, and the share is given up
abbrev pub Raises : ℕ × ℕ → Did → Type 0
Raises c d = ((found : ℕ)
    × (d ≡ did_exchange (places.State c.0) (word_of 1 (version_of c.1)) found (word_of LOCKED (version_of c.1))))
    ⊎ GivesUp c.0 d

-- a page is taken out of its frame, whose owner word is zeroed before
pub data Empties (c : ℕ × ℕ) (d : Did) : Type 0 where
  loads : (found : ℕ) → d ≡ did_load (places.Translation c.0) found → Empties c d
  disowns : (frame : ℕ) → d ≡ did_store (places.Owner frame) 0 → Empties c d
  clears : d ≡ did_store (places.Translation c.0) (trans_word None) → Empties c d

-- a page is released as evicted, at its next version
abbrev pub ReleasesEvicted : ℕ × ℕ → Did → Type 0
ReleasesEvicted c d = d ≡ did_store (places.State c.0) (word_of EVICTED (version_of c.1 + 1))

-- a step of the phase on this candidate
abbrev pub Does : Phase → ℕ × ℕ → Did → Type 0
Does phases.Save c d = Saves c d
Does phases.Lock c d = Locks c d
Does phases.Raise c d = Raises c d
Does phases.Empty c d = Empties c d
Does phases.Leave c d = ReleasesEvicted c d

-- a step of the phase on one of the candidates
abbrev pub DoesOne : Phase → List (ℕ × ℕ) → Did → Type 0
DoesOne phase list d = (n : ℕ) × (n < length list) × Does phase (slice_index_or list n (0, 0)) d

-- the steps are those of the phases, one phase after another
pub record InPhases (list : List (ℕ × ℕ)) (done : List Did) : Type 0 where
  pub saves : List Did
  pub locks : List Did
  pub raises : List Did
  pub empties : List Did
  pub leaves : List Did
  pub cut : done ≡ saves ++ (locks ++ (raises ++ (empties ++ leaves)))
  pub saving : Each (DoesOne phases.Save list) saves
  pub locking : Each (DoesOne phases.Lock list) locks
  pub raising : Each (DoesOne phases.Raise list) raises
  pub emptying : Each (DoesOne phases.Empty list) empties
  pub leaving : Each (DoesOne phases.Leave list) leaves
