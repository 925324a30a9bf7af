-- The pages of a group, which are clean and held exclusively, are taken out of their frames.
use Rattle.std.specs.Prelude.{[], ◌++◌, ◌+◌, ◌<◌, ◌∷◌, ◌≡◌, length, List, map, None, slice_index, Some, suc, ℕ}
use Rattle.vm_event.specs.Prelude.{mapping_of, trans_word}
use Rattle.vm_rule.specs.Prelude.{clean_in, did_load, did_store, draft_of, Each, held_at, last_of, seat_of}
use Rattle.vm_rule.specs.declared.view.WordPlace.{WordPlace}
use Rattle.vm_step.specs.Prelude.{Did, IsToldOf, RunsAlone, View, Works}
use Rattle.vm_evict.specs.Evictions.{FramesCome}
use Rattle.vm_evict.specs.Stages.{owning_seat}
use Rattle.vm_group_guard.specs.Group.{IsUnder}
use Rattle.vm_group_evict.specs.Leaving.{PageStays, LeavesGroup}

-- the steps that take page p out of this frame: its translation word is loaded, the frame's owner word names no page
-- then, and then the translation word names no frame
abbrev pub emptying : ℕ → ℕ → ℕ → List Did
emptying p translation frame =
    did_load (WordPlace.Translation p) translation ∷ did_store (WordPlace.Owner frame) 0
    ∷ did_store (WordPlace.Translation p) (trans_word None) ∷ []

-- those of the pages from p on, each with its translation word and the frame that this names
abbrev pub emptyings : ℕ → List (ℕ × ℕ) → List Did
emptyings p [] = []
emptyings p (x ∷ xs) = emptying p x.0 x.1 ++ emptyings (suc p) xs

module _ {X : Type 0} where
  -- the pass holds the page exclusively, with its last words as its draft, and the page stands clean in this frame
  pub record IsOwnedClean (p frame : ℕ) (v : View X) : Type 0 where
    pub seat : seat_of v p ≡ owning_seat
    pub stands : (held_at v p).mapping ≡ Some (clean_in frame)
    pub told : IsToldOf v p
    pub draft : draft_of v p ≡ (last_of v p).words

  -- the pass holds the page exclusively, with its last words as its draft, and the page stands in no frame
  pub record IsOwnedEmpty (p : ℕ) (v : View X) : Type 0 where
    pub seat : seat_of v p ≡ owning_seat
    pub empty : (held_at v p).mapping ≡ None
    pub told : IsToldOf v p
    pub draft : draft_of v p ≡ (last_of v p).words

  -- The pages were taken out of these frames, which came to the pass.
  pub record AreEmptied (h size : ℕ) (frames : List ℕ) (v w : View X) : Type 0 where
    pub done : List Did
    -- the translation words loaded, each of a clean page, and their frames
    pub stood : List (ℕ × ℕ)
    pub clean : Each (λ x. mapping_of x.0 ≡ Some (clean_in x.1)) stood
    pub steps : done ≡ emptyings h stood
    pub frames_are : frames ≡ map (λ x. x.1) stood
    pub count : length frames ≡ size
    pub leaves : LeavesGroup h size done v w
    pub runs : RunsAlone done [] v w
    pub keeps : (q : ℕ) → PageStays q v w
    pub each : (k : ℕ) → k < size → (held_at v (h + k)).mapping ≡ Some (clean_in (slice_index frames k))
    pub empty : (q : ℕ) → IsUnder h size q → IsOwnedEmpty q w
    pub come : FramesCome frames v w
    pub out : w.out ≡ v.out
    pub notes : w.notes ≡ v.notes

  -- One page was.
  pub record IsPutOut (p frame : ℕ) (v w : View X) : Type 0 where
    pub translation : ℕ
    pub clean : mapping_of translation ≡ Some (clean_in frame)
    pub works : Works p (emptying p translation frame) v w
    pub stood : (held_at v p).mapping ≡ Some (clean_in frame)
    pub empty : IsOwnedEmpty p w
    pub come : FramesCome (frame ∷ []) v w
    pub out : w.out ≡ v.out
    pub notes : w.notes ≡ v.notes
