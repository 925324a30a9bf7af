-- What callers of a pool start from: the first pass of a pool after it asked for a page, and a pass that can write a
-- word and read it again.
use Rattle.std.specs.Prelude.{[], ◌+◌, ◌<◌, ◌≡◌, List, ℕ}
use Rattle.vm_event.specs.Prelude.{at, MAX_VERSION}
use Rattle.vm_step.specs.Prelude.{View}
use Rattle.vm_exmap.specs.Frames.{HasFree}
use Rattle.vm_pool.specs.from_vm_fault.Fetches.{IsKnownOut}
use Rattle.vm_pool.specs.{Brings.KeepsLocks, declared.bring.Bring.Bring, Known.known_version, Known.KnowsBring}

module _ {X : Type 0} where
  -- the first pass of a pool, which began with the view `first`, asked for page p, by an interface for one frame that had none
  pub record HasAskedFirst (p : ℕ) (first : View X) (frames : List ℕ) (v : View X) (answer : Bring) : Type 0 where
    pub keeps : KeepsLocks first v
    pub knows : KnowsBring 1 p [] frames first v answer

  -- the pass knows that page p is evicted, four versions below the last or more, and that a frame is free; and the page's block never fails
  pub record MayGoRound (p : ℕ) (frames : List ℕ) (v : View X) : Type 0 where
    pub out : IsKnownOut p v
    pub free : HasFree frames v
    pub below : known_version v p + 3 < MAX_VERSION
    pub good : at 0 v.start.bounds p ≡ 0
