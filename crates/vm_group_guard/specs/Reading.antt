-- A group that is read optimistically.
use Rattle.std.specs.Prelude.{[], ◌++◌, ◌+◌, ◌<◌, ◌∷◌, ◌≡◌, ◌⊎◌, length, List, map, None, Option, Some, slice_index}
use Rattle.std.specs.Prelude.{suc, true, ℕ}
use Rattle.vm_event.specs.Prelude.{frame_of, mapping_of, version_of}
use Rattle.vm_rule.specs.Prelude.{began_of, entries_of, Entry, held_at, numbers, Start}
use Rattle.vm_step.specs.Prelude.{Did, IsAsideOf, KeepsFrames, ReadsAsBefore, RunsAlone, View}
use Rattle.vm_step.specs.steps.Look.{AreReadTogether}
use Rattle.vm_guard.specs.Guards.{IsReading, IsValid}
use Rattle.vm_group_guard.specs.Group.{IsUnder}
use Rattle.vm_group_guard.specs.Steps.{AreUnmarkingAll, looks, translation_loads}

module _ {X : Type 0} where
  -- the call made these steps, says nothing, and leaves all but the open reads of the group's pages
  pub record IsGroupQuiet (h size : ℕ) (done : List Did) (v w : View X) : Type 0 where
    pub aside : IsAsideOf (IsUnder h size) done v w
    pub frames : KeepsFrames v w
    pub alone : RunsAlone done [] v w

  -- the pass reads each page of the group from its frame, all at one word
  abbrev pub AreReading : ℕ → ℕ → List ℕ → View X → Type 0
  AreReading h word frames v = (k : ℕ) → k < length frames → IsReading (h + k) word (slice_index frames k) v

  -- A read of a group began. The group's word was looked at, a mark that it had taken away, the translation word of
  -- each page loaded, and the group looked at again.
  pub record BeginsGroup (h size word : ℕ) (frames : List ℕ) (v w : View X) : Type 0 where
    pub done : List Did
    pub quiet : IsGroupQuiet h size done v w
    pub count : length frames ≡ size
    pub reads : AreReading h word frames w
    -- what the first look found, and the loads of the translation words; the reader's word is what the second look found
    pub first : ℕ
    pub translations : List ℕ
    pub clearing : List Did
    pub cut : done ≡ looks first (numbers h size) ++ (clearing ++ (translation_loads h translations
        ++ looks word (numbers h size)))
    -- a mark that the first look found was to be taken away next
    pub clears : AreUnmarkingAll (numbers h size) first clearing
    -- both looks found the same version, and each page's frame is the one that its translation word names
    pub version : version_of first ≡ version_of word
    pub names : map (λ t. frame_of (mapping_of t)) translations ≡ map (λ f. Some f) frames
    pub current : w.current ≡ true

  -- nothing is said; or whichever words the pages may have together, at this version, prove what is said
  abbrev pub ProvesTogether : (Start → ℕ → List ℕ → ℕ → List ℕ → Type 0)
      → (Start → List (ℕ × List ℕ) → List (Entry X) → Type 0) → List ℕ → ℕ → Option X → View X → Type 0
  ProvesTogether tied may_hold qs version said v =
      (said ≡ None)
      ⊎ (v.start.tells ≡ true → (words : ℕ → List ℕ) → AreReadTogether tied qs version words v
      → may_hold (began_of v.start) (map (λ q. (q, words q)) qs) (entries_of v said))

  -- the pages from q on, which were read from these frames, were validated one behind another: the first says this, the
  -- others nothing
  abbrev pub AreValid : (Start → ℕ → List ℕ → ℕ → List ℕ → Type 0) → ℕ → ℕ → List ℕ → Option X → View X → View X
      → Type 0
  AreValid tied q word [] said v w = w ≡ v
  AreValid tied q word (f ∷ fs) said v w =
      (u : View X) × IsValid tied q word f said v u × AreValid tied (suc q) word fs None u w

  -- the mark of the group, where the word found of it has one, was taken away, unless the group had another word by then
  pub record IsGroupUnmarked (h size word : ℕ) (v w : View X) : Type 0 where
    pub done : List Did
    pub quiet : IsGroupQuiet h size done v w
    pub reads : (q : ℕ) → ReadsAsBefore v w q
    pub held : (q : ℕ) → held_at w q ≡ held_at v q
    pub translations : w.translations ≡ v.translations
    pub clears : AreUnmarkingAll (numbers h size) word done
