-- What comes of a visit to one bundle on a walk, and of the walk: the parts of an allocation from an interface without a frame.
use Rattle.std.specs.Prelude.{[], bit_xor, false, length, List, ℕ, ◌++◌, ◌∷◌, ◌≡◌, ◌≢◌, ◌≤◌}
use Rattle.vm_supply.specs.from_vm_rule.Prelude.{did_exchange, did_load, Each, frames_in, has}
use Rattle.vm_supply.specs.from_vm_rule.declared_view_WordPlace.{WordPlace}
use Rattle.vm_supply.specs.from_vm_step.Prelude.{AreHeld, Did, IsAlone, known_word_at, View}
use Rattle.vm_supply.specs.from_vm_step.declared_saw_At.{At}
use Rattle.vm_supply.specs.from_vm_step.declared_saw_Saw.{Saw}
use Rattle.vm_exmap.specs.{declared.interface.Alloc.Alloc, declared.walk.Visited.Visited, Frames.MovesFrames}
use Rattle.vm_exmap.specs.Walks.{Asks, IsDry, IsLostOut, TakesBits, TakesFrom}

module _ {X : Type 0} where
  -- ---- one bundle

  -- the bundle's word was 0
  pub record IsEmptyVisit (g : ℕ) (v w : View X) : Type 0 where
    pub moves : MovesFrames (did_load (WordPlace.Bundle g) 0 ∷ []) v w
    pub frames : w.frames ≡ v.frames
    -- so a pass that is alone knew
    pub known : IsAlone v → (known_word_at v (WordPlace.Bundle g) ≡ 0) × (w.snapshot.words ≡ v.snapshot.words)

  -- the bits asked for were lost: another word stood there by then
  pub record IsLostVisit (most g : ℕ) (saw : Saw) (v w : View X) : Type 0 where
    pub mask : ℕ
    pub load : Did
    pub asks : Asks most g saw.first mask load
    pub at : saw.at ≡ At.Bundle g
    pub other : saw.seen ≢ saw.first
    pub moves : MovesFrames (load ∷ did_exchange (WordPlace.Bundle g) saw.first saw.seen (bit_xor saw.first mask) ∷ []) v w
    pub frames : w.frames ≡ v.frames
    -- a pass that is alone loses none
    pub others : IsAlone v → ⊥

  -- they were taken: their frames, which are not none, are the pass's now, and were not before
  pub record IsTakenVisit (most g mask : ℕ) (v w : View X) : Type 0 where
    pub word : ℕ
    pub load : Did
    pub asks : Asks most g word mask load
    pub moves : MovesFrames (load ∷ did_exchange (WordPlace.Bundle g) word word (bit_xor word mask) ∷ []) v w
    pub frames : w.frames ≡ frames_in g mask ++ v.frames
    pub new : Each (λ f. has f v.frames ≡ false) (frames_in g mask)
    pub held : AreHeld (frames_in g mask) w
    pub some : 1 ≤ length (frames_in g mask)
    pub table : IsAlone v → TakesBits most g mask v w

  -- what came of a visit to bundle g
  abbrev pub IsVisited : ℕ → ℕ → View X → View X → Visited → Type 0
  IsVisited most g v w Visited.Empty = IsEmptyVisit g v w
  IsVisited most g v w (Visited.Lost saw) = IsLostVisit most g saw v w
  IsVisited most g v w (Visited.Taken mask) = IsTakenVisit most g mask v w

  -- ---- the walk

  -- it ended with these frames, which are not none
  pub record IsFound (most home : ℕ) (frames : List ℕ) (v w : View X) : Type 0 where
    pub done : List Did
    pub moves : MovesFrames done v w
    pub g : ℕ
    pub mask : ℕ
    pub takes : TakesFrom most home g mask done v w
    pub table : IsAlone v → TakesBits most g mask v w
    pub are : frames ≡ frames_in g mask
    pub held : AreHeld frames w
    pub some : 1 ≤ length frames

  -- what a walk over the bundles comes to
  abbrev pub IsWalk : ℕ → ℕ → View X → View X → Alloc → Type 0
  IsWalk most home v w (Alloc.Batch frames) = IsFound most home frames v w
  IsWalk most home v w Alloc.Dry = IsDry home [] [] v w
  IsWalk most home v w (Alloc.Again saw) = IsLostOut home most [] [] saw v w
