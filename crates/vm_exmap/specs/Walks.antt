-- How an interface comes to frames: from its own, or by a walk over the bundles, from its home bundle on and round.
use Rattle.std.specs.Prelude.{[], bit_xor, false, length, List, max, min, suc, zero, ℕ, ◌%◌, ◌++◌, ◌+◌, ◌<◌, ◌∷◌, ◌≡◌, ◌≢◌, ◌⊎◌}
use Rattle.vm_event.specs.Prelude.{AreLowest}
use Rattle.vm_supply.specs.from_vm_rule.Prelude.{bundles_of, did_exchange, did_load, Each, frames_in, has}
use Rattle.vm_supply.specs.from_vm_rule.declared_view_WordPlace.{WordPlace}
use Rattle.vm_supply.specs.from_vm_step.Prelude.{Did, IsAlone, IsSaw, known_word_at, KnowsElse, KnowsSame, NoneExpected, NoWord, View}
use Rattle.vm_supply.specs.from_vm_step.declared_saw_At.{At}
use Rattle.vm_supply.specs.from_vm_step.declared_saw_Saw.{Saw}
use Rattle.vm_exmap.specs.{declared.interface.Alloc.Alloc, declared.interface.AllocOne.AllocOne, Frames.MovesFrames}

-- the k-th bundle of the walk
abbrev pub bundle_at : ℕ → ℕ → ℕ → ℕ
bundle_at home bundles k = (home + k) % bundles

-- the bits that are asked of a bundle's word: its lowest ones, at most so many
pub record Asks (most g word mask : ℕ) (load : Did) : Type 0 where
  pub some : word ≢ 0
  pub lowest : AreLowest word most mask
  pub is : load ≡ did_load (WordPlace.Bundle g) word

-- a bundle is passed by: its word was 0, or the bits asked for were lost, since another word stood there by then
pub data PassesBy (most g : ℕ) (steps : List Did) : Type 0 where
  empty : steps ≡ did_load (WordPlace.Bundle g) 0 ∷ [] → PassesBy most g steps
  lost : (word mask other : ℕ) (load : Did) → Asks most g word mask load → other ≢ word
      → steps ≡ load ∷ did_exchange (WordPlace.Bundle g) word other (bit_xor word mask) ∷ [] → PassesBy most g steps

-- the first `count` bundles of the walk were passed by, in order; each word was loaded once
abbrev pub Walks : ℕ → ℕ → ℕ → ℕ → List Did → Type 0
Walks most home bundles zero done = done ≡ []
Walks most home bundles (suc k) done =
    (before : List Did) × (steps : List Did) × (done ≡ before ++ steps) × Walks most home bundles k before
    × PassesBy most (bundle_at home bundles k) steps

-- so were they, and each word was 0
abbrev pub Dry : ℕ → ℕ → ℕ → List Did → Type 0
Dry home bundles zero done = done ≡ []
Dry home bundles (suc k) done = (before : List Did)
    × (done ≡ before ++ did_load (WordPlace.Bundle (bundle_at home bundles k)) 0 ∷ []) × Dry home bundles k before

-- the frames handed out, and those that stay with the interface, in order
pub record HandsOut (n : ℕ) (frames batch new : List ℕ) : Type 0 where
  pub all : frames ≡ batch ++ new
  pub count : length batch ≡ min n (length frames)

-- the answer to one frame asked for, as a batch of it
abbrev pub as_batch : AllocOne → Alloc
as_batch (AllocOne.Frame f) = Alloc.Batch (f ∷ [])
as_batch AllocOne.Dry = Alloc.Dry
as_batch (AllocOne.Again saw) = Alloc.Again saw

-- the answer is a batch, or that there is none
abbrev pub NotLost : Alloc → Type 0
NotLost (Alloc.Batch batch) = Unit {0}
NotLost Alloc.Dry = Unit {0}
NotLost (Alloc.Again saw) = ⊥

module _ {X : Type 0} where
  -- the walk ended at this bundle, after those before it, with the bits asked for
  pub record TakesFrom (most home g mask : ℕ) (done : List Did) (v w : View X) : Type 0 where
    pub passed : ℕ
    pub below : passed < bundles_of v.start.frames
    pub bundle : g ≡ bundle_at home (bundles_of v.start.frames) passed
    pub before : List Did
    pub walk : Walks most home (bundles_of v.start.frames) passed before
    pub word : ℕ
    pub load : Did
    pub asks : Asks most g word mask load
    pub cut : done ≡ before ++ load ∷ did_exchange (WordPlace.Bundle g) word word (bit_xor word mask) ∷ []
    -- the frames come to the pass, which had none of them
    pub frames : w.frames ≡ frames_in g mask ++ v.frames
    pub new : Each (λ f. has f v.frames ≡ false) (frames_in g mask)

  -- what a pass that was alone knows of the words: in that of bundle g the lowest bits asked for were set, and are
  -- not any more; all others are
  -- as before
  pub record TakesBits (most g mask : ℕ) (v w : View X) : Type 0 where
    pub lowest : AreLowest (known_word_at v (WordPlace.Bundle g)) most mask
    pub left : known_word_at w (WordPlace.Bundle g) ≡ bit_xor (known_word_at v (WordPlace.Bundle g)) mask
    pub others : KnowsElse (λ at. at ≡ WordPlace.Bundle g) v w

  -- the interface had frames: the first of them are handed out, with no step
  pub record IsOwn (n : ℕ) (old batch new : List ℕ) (v w : View X) : Type 0 where
    pub some : old ≢ []
    pub hands : HandsOut n old batch new
    pub same : w ≡ v

  -- it had none, and took some from a bundle
  pub record TakesFromBundle (home cap n : ℕ) (old batch new : List ℕ) (v w : View X) : Type 0 where
    pub none : old ≡ []
    pub done : List Did
    pub moves : MovesFrames done v w
    pub g : ℕ
    pub mask : ℕ
    pub takes : TakesFrom (max n cap) home g mask done v w
    pub table : IsAlone v → TakesBits (max n cap) g mask v w
    pub hands : HandsOut n (frames_in g mask) batch new

  -- nothing was taken
  pub record TakesNone (done : List Did) (old new : List ℕ) (v w : View X) : Type 0 where
    pub none : old ≡ []
    pub same : new ≡ []
    pub moves : MovesFrames done v w
    pub frames : w.frames ≡ v.frames
    pub table : KnowsSame v w

  -- each bundle's word was 0 when it was loaded
  pub record IsDry (home : ℕ) (old new : List ℕ) (v w : View X) : Type 0 where
    pub done : List Did
    pub refused : TakesNone done old new v w
    pub walk : Dry home (bundles_of v.start.frames) (bundles_of v.start.frames) done
    -- so a pass that is alone knew
    pub known : IsAlone v → (g : ℕ) → g < bundles_of v.start.frames → known_word_at v (WordPlace.Bundle g) ≡ 0

  -- each bundle was passed by, and the bits of one were lost: the evidence is that exchange
  pub record IsLostOut (home most : ℕ) (old new : List ℕ) (saw : Saw) (v w : View X) : Type 0 where
    pub done : List Did
    pub refused : TakesNone done old new v w
    pub walk : Walks most home (bundles_of v.start.frames) (bundles_of v.start.frames) done
    pub g : ℕ
    pub at : saw.at ≡ At.Bundle g
    pub evidence : IsSaw NoWord NoneExpected done saw
    -- a pass that is alone loses none
    pub others : IsAlone v → ⊥

  -- what `alloc` of n frames answers, of an interface that had the frames `old` and has the frames `new`
  abbrev pub IsAlloc : ℕ → ℕ → ℕ → List ℕ → List ℕ → View X → View X → Alloc → Type 0
  IsAlloc home cap n old new v w (Alloc.Batch batch) = IsOwn n old batch new v w ⊎ TakesFromBundle home cap n old batch new v w
  IsAlloc home cap n old new v w Alloc.Dry = IsDry home old new v w
  IsAlloc home cap n old new v w (Alloc.Again saw) = IsLostOut home (max n cap) old new saw v w
