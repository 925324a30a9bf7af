-- What the steps on a bundle word and on the hand tell. Frames that are taken come to the pass with their words;
-- frames that are given back leave it.
use Rattle.std.specs.Int.{bit_at}
use Rattle.std.specs.Prelude.{[], bit_and, bit_or, bit_xor, false, if◌then◌else◌, length, List, suc, true, zero, ℕ}
use Rattle.std.specs.Prelude.{◌*◌, ◌++◌, ◌+◌, ◌<◌, ◌==◌, ◌∷◌, ◌≡◌}
use Rattle.vm_event.specs.{declared.words.TheConstants.FRAMES, Prelude.hand_more, Prelude.in_mask}
use Rattle.vm_owner.specs.Numbers.{has}
use Rattle.vm_rule.specs.{Brought.Brings, declared.view.Put.Put, declared.view.View.View}
use Rattle.vm_rule.specs.{Puts.put, Releases.without_all}
use Rattle.vm_rule.specs.declared.view.WordPlace.TheVariants as places
use Rattle.vm_rule.specs.Log.{did_change, did_exchange, did_load}

-- the frames of bundle g whose bits are set among the first n, by rising number
abbrev pub frames_below : ℕ → ℕ → ℕ → List ℕ
frames_below zero g mask = []
frames_below (suc n) g mask = frames_below n g mask ++ (if bit_at mask n == 1 then (FRAMES * g + n) ∷ [] else [])

-- the frames of bundle g whose bits are set
unfoldable pub frames_in : ℕ → ℕ → List ℕ
frames_in g mask = frames_below FRAMES g mask

-- the words of these frames are known
abbrev pub with_contents : (ℕ → List ℕ) → List ℕ → List (Put (List ℕ)) → List (Put (List ℕ))
with_contents words [] l = l
with_contents words (f ∷ fs) l = put f (words f) (with_contents words fs l)

module _ {X : Type 0} where
  -- a load of a bundle's word
  pub record BundleTold (g found : ℕ) (v w : View X) : Type 0 where
    pub brings : Brings (did_load (places.Bundle g) found) [] [] v v w

  abbrev pub taken_view : ℕ → ℕ → (ℕ → List ℕ) → View X → View X
  taken_view g mask words v =
      record v { frames = frames_in g mask ++ v.frames; contents = with_contents words (frames_in g mask) v.contents }

  -- the frames taken are frames of the table, and were not the pass's
  pub record TakeTold (g expects mask found : ℕ) (v w : View X) : Type 0 where
    pub words : ℕ → List ℕ
    pub brings : Brings (did_exchange (places.Bundle g) expects found (bit_xor expects mask)) [] [] v
        (if found == expects then taken_view g mask words v else v) w
    pub size : (f : ℕ) → length (words f) ≡ v.start.size
    pub inside : found ≡ expects → (f : ℕ) → in_mask g mask f ≡ true → f < v.start.frames
    pub new : found ≡ expects → (f : ℕ) → in_mask g mask f ≡ true → has f v.frames ≡ false

  abbrev pub given_view : ℕ → ℕ → View X → View X
  given_view g mask v = record v { frames = without_all (frames_in g mask) v.frames }

  -- none of their bits was set
  pub record GiveTold (g mask found : ℕ) (v w : View X) : Type 0 where
    pub brings : Brings (did_change (places.Bundle g) found (bit_or found mask)) [] [] v (given_view g mask v) w
    pub unset : bit_and found mask ≡ 0

  -- the hand was moved on
  pub record HandTold (found : ℕ) (v w : View X) : Type 0 where
    pub brings : Brings (did_change places.Hand found (hand_more found)) [] [] v v w
