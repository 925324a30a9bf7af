-- How frames go back to the bundles: for each bundle that has some of them, by rising number, one step that sets their bits.
use Rattle.std.specs.Prelude.{[], bit_or, Bool, false, if◌then◌else◌, length, List, min, suc, zero, ℕ, ◌&&◌, ◌++◌}
use Rattle.std.specs.Prelude.{◌-◌, ◌/◌, ◌<◌, ◌==◌, ◌∷◌, ◌≡◌, ◌⊎◌}
use Rattle.vm_event.specs.Prelude.{in_mask}
use Rattle.vm_supply.specs.from_vm_rule.Prelude.{bundles_of, did_change, FRAMES, has}
use Rattle.vm_supply.specs.from_vm_rule.declared_view_WordPlace.{WordPlace}
use Rattle.vm_supply.specs.from_vm_step.Prelude.{Did, IsAlone, known_word_at, KnowsAt, View}
use Rattle.vm_exmap.specs.Frames.{MovesFrames}

-- the frame is one of these, and of bundle g
abbrev pub is_of : ℕ → List ℕ → ℕ → Bool
is_of g frames f = (f / FRAMES == g) && has f frames

-- the bits of the frames that are of bundle g were set, by one step; or there are none, and no step was made
pub data GivesTo (frames : List ℕ) (g : ℕ) (steps : List Did) : Type 0 where
  none : ((f : ℕ) → is_of g frames f ≡ false) → steps ≡ [] → GivesTo frames g steps
  some : (mask found : ℕ) → ((f : ℕ) → in_mask g mask f ≡ is_of g frames f) → steps ≡ did_change (WordPlace.Bundle g)
      found (bit_or found mask) ∷ []
      → GivesTo frames g steps

-- so it was done with the first `count` bundles, in order
abbrev pub GivesFromFirst : List ℕ → ℕ → List Did → Type 0
GivesFromFirst frames zero done = done ≡ []
GivesFromFirst frames (suc g) done = (before : List Did) × (steps : List Did) × (done ≡ before ++ steps) × GivesFromFirst frames g before
    × GivesTo frames g steps

module _ {X : Type 0} where
  -- what the pass knows of the word of bundle g: it is as before, where none of these frames is of the bundle; else
  -- it has their bits too, where
  -- the table has the bundle
  abbrev pub KnowsGiven : List ℕ → ℕ → View X → View X → Type 0
  KnowsGiven frames g v w =
      (((f : ℕ) → is_of g frames f ≡ false) × (known_word_at w (WordPlace.Bundle g) ≡ known_word_at v (WordPlace.Bundle g)))
      ⊎ ((mask : ℕ) × ((f : ℕ) → in_mask g mask f ≡ is_of g frames f) × KnowsAt (WordPlace.Bundle g)
      (bit_or (known_word_at v (WordPlace.Bundle g)) mask) w)

  -- these frames went back to the bundles, and no others
  pub record AreGiven (frames : List ℕ) (v w : View X) : Type 0 where
    pub done : List Did
    pub moves : MovesFrames done v w
    pub gives : GivesFromFirst frames (bundles_of v.start.frames) done
    pub left : (f : ℕ) → has f w.frames ≡ (if has f frames then false else has f v.frames)
    -- what a pass that was alone knows of the bundles' words; all others are as before (`moves`)
    pub table : IsAlone v → (g : ℕ) → g < bundles_of v.start.frames → KnowsGiven frames g v w

  -- an interface with the frames `old` was handed these frames: it keeps the first ones up to its cap, and the others went back
  pub record IsFreed (cap : ℕ) (old frames new : List ℕ) (v w : View X) : Type 0 where
    pub kept : List ℕ
    pub given : List ℕ
    pub all : frames ≡ kept ++ given
    pub new_frames : new ≡ old ++ kept
    pub count : length kept ≡ min (cap - length old) (length frames)
    pub back : AreGiven given v w
