-- What a pass that is alone knows of the table after it asked for a page: where it knew a frame to be free, from
-- before the call; else from after
-- the sweep that the call made.
use Rattle.std.specs.Prelude.{[], ◌<◌, ◌∷◌, ◌≡◌, ◌≢◌, ◌⊎◌, bit_xor, List, max, ℕ}
use Rattle.vm_event.specs.Prelude.{AreLowest, EVICTED, UNLOCKED, version_of}
use Rattle.vm_rule.specs.Prelude.{bundles_of, frames_in}
use Rattle.vm_rule.specs.declared.view.WordPlace.TheVariants as places
use Rattle.vm_clock.specs.from_vm_step.Prelude.{IsAlone, IsOfPage, known_word_at, KnowsElse, View}
use Rattle.vm_exmap.specs.Frames.{HasFree, IsBundleOf}
use Rattle.vm_fault.specs.Fetches.{IsKnownOut, IsOfBoth, KnowsReleased}
use Rattle.vm_evict.specs.declared.report.Report.{Report}
use Rattle.vm_pool.specs.{Brings.IsSure, Brings.SaysDry, declared.bring.Bring.Bring, Sweeps.IsSwept}
use Rattle.vm_pool.specs.declared.bring.Bring.TheVariants as brings

module _ {X : Type 0} where
  -- the version of page p, as the pass knows the table
  abbrev pub known_version : View X → ℕ → ℕ
  known_version v p = version_of (known_word_at v (places.State p))

  -- page p was evicted and is resident in frame f, with the word Unlocked at its next version; all other words are as
  -- before, but those of the
  -- frame. The interface had that frame, or had none, and took the lowest bits of a bundle, whose word is without them
  pub data KnowsBrought (cap p : ℕ) (old new : List ℕ) (v w : View X) : Type 0 where
    own : (f : ℕ) → old ≡ f ∷ new → KnowsReleased (IsOfBoth v.start.size p f) UNLOCKED p (known_version v p) v w
        → KnowsBrought cap p old new v w
    taken : (f g mask : ℕ) → old ≡ [] → frames_in g mask ≡ f ∷ new → g < bundles_of v.start.frames
        → AreLowest (known_word_at v (places.Bundle g)) (max 1 cap) mask
        → known_word_at w (places.Bundle g) ≡ bit_xor (known_word_at v (places.Bundle g)) mask
        → KnowsReleased (λ at. IsOfBoth v.start.size p f at ⊎ (at ≡ places.Bundle g)) UNLOCKED p (known_version v p) v w
        → KnowsBrought cap p old new v w

  -- page p was evicted and could not be read: it is evicted at its next version; all other words are as before, but
  -- those of the bundles, and of
  -- the page
  abbrev pub KnowsFailed : ℕ → View X → View X → Type 0
  KnowsFailed p v w = KnowsReleased (λ at. IsOfPage p at ⊎ IsBundleOf v.start at) EVICTED p (known_version v p) v w

  -- what the pass knows after each answer for page p; where the page was not brought the interface has a frame
  abbrev pub KnowsBring : ℕ → ℕ → List ℕ → List ℕ → View X → View X → Bring → Type 0
  KnowsBring cap p old new v w brings.Brought = KnowsBrought cap p old new v w
  KnowsBring cap p old new v w (brings.Device q count) = (new ≢ []) × KnowsFailed p v w
  KnowsBring cap p old new v w (brings.Again saw) = (new ≢ []) × KnowsElse (IsBundleOf v.start) v w
  KnowsBring cap p old new v w (brings.Worn q) = (new ≢ []) × KnowsElse (IsBundleOf v.start) v w
  KnowsBring cap p old new v w (brings.Dry looks) = ⊥

  -- the pass is alone still, and knows the words as they were
  pub record IsStill (v w : View X) : Type 0 where
    pub alone : IsAlone w
    pub start : w.start ≡ v.start
    pub words : w.snapshot.words ≡ v.snapshot.words

  -- what the pass knows after each answer for page p, whether it knew of a free frame or not. Where a frame was free
  -- it knows what came of the page.
  -- Where none was, the call swept (`IsSwept` tells what the pass knows then), and what came of the page it knows as
  -- from the table after the sweep,
  -- where the answer was as sure; or no frame was free still
  pub data KnowsAsked (cap p : ℕ) (old new : List ℕ) (v w : View X) (answer : Bring) : Type 0 where
    at_once : KnowsBring cap p old new v w answer → KnowsAsked cap p old new v w answer
    swept : (HasFree old v → ⊥) → (dry clean : View X) (filled : List ℕ) (report : Report) → IsStill v dry
        → IsSwept cap cap [] filled report dry clean
        → KnowsBring cap p filled new clean w answer → (IsKnownOut p clean → IsSure p clean w answer) → KnowsAsked cap p old new v w answer
    none : (HasFree old v → ⊥) → (dry clean : View X) (filled : List ℕ) (report : Report) → IsStill v dry
        → IsSwept cap cap [] filled report dry clean
        → (HasFree filled clean → ⊥) → IsStill clean w → SaysDry report answer → KnowsAsked cap p old new v w answer
