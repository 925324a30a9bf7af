-- What bringing a page does: a frame is allocated, after one sweep where none was free, and the page is brought into
-- it; or no frame was to be
-- had, for a cause that the sweep tells.
use Rattle.std.specs.Prelude.{[], ◌++◌, ◌+◌, ◌-◌, ◌^◌, ◌∷◌, ◌≡◌, ◌≤◌, ◌⊎◌, Err, List, min, None, Ok, Option, Result, Some, ℕ}
use Rattle.vm_event.specs.Prelude.{at}
use Rattle.vm_rule.specs.Prelude.{IsLocking, seat_of, StartsWith}
use Rattle.vm_clock.specs.from_vm_step.Prelude.{HoldsPage, KeepsNumbers, KnowsAsBefore, StaysAlone, View}
use Rattle.vm_clock.specs.from_vm_step.{declared_choice_Looks.Looks, declared_saw_Saw.Saw}
use Rattle.vm_exmap.specs.{Returns.IsFreed, Walks.IsAlloc}
use Rattle.vm_exmap.specs.declared.interface.Alloc.TheVariants as allocs
use Rattle.vm_fault.specs.declared.fault.Fetch.TheVariants as fetches
use Rattle.vm_fault.specs.Fetches.{IsFetched}
use Rattle.vm_evict.specs.declared.report.Report.{Report}
use Rattle.vm_pool.specs.{declared.bring.Bring.Bring, Sweeps.IsSwept}
use Rattle.vm_pool.specs.declared.bring.Bring.TheVariants as brings

-- a walk that met only pages at the last version, of which this is the first, evicted ones, and frames without a page
pub record MeetsOnlyWorn (looks : Looks) (p : ℕ) : Type 0 where
  pub first : looks.first_worn ≡ Some p
  pub found : looks.found ≡ 0
  pub again : looks.again ≡ 0
  pub marked : looks.marked ≡ 0
  pub lost : looks.lost ≡ 0
  pub held : looks.held ≡ 0

-- the page that the first of these is, or none where the walk met others too
abbrev pub NamesWorn : Looks → Option ℕ → Type 0
NamesWorn looks (Some p) = MeetsOnlyWorn looks p
NamesWorn looks None = (p : ℕ) → MeetsOnlyWorn looks p → ⊥

-- why a sweep brought no frame: a write of it failed; it met only worn pages; or neither
abbrev pub SaysDry : Report → Bring → Type 0
SaysDry report brings.Brought = ⊥
SaysDry report (brings.Again saw) = ⊥
SaysDry report (brings.Device p count) = (report.freed ≡ 0) × (report.first_failed ≡ Some (p, count))
SaysDry report (brings.Worn p) = (report.freed ≡ 0) × (report.failed ≡ 0) × MeetsOnlyWorn report.looks p
SaysDry report (brings.Dry looks) =
    (looks ≡ report.looks) × ((report.freed ≡ 0 → report.first_failed ≡ None) ×
    (report.freed ≡ 0 → report.failed ≡ 0 → (p : ℕ) → MeetsOnlyWorn report.looks p → ⊥))

-- page p was brought, or its device failed, where the bound of its block allows a fault
abbrev pub IsBroughtOrFailed : ℕ → List ℕ → Bring → Type 0
IsBroughtOrFailed p bounds answer = (answer ≡ brings.Brought)
    ⊎ ((count : ℕ) × (answer ≡ brings.Device p count) × (1 ≤ count) × (count ≤ at 0 bounds p))

-- the pages evicted by an interface's sweeps, as they are counted, after one more sweep
abbrev pub counted : ℕ → Report → ℕ
counted count report = min (count + report.freed) (2 ^ 64 - 1)

module _ {X : Type 0} where
  -- the interface got a frame: at once, or after a sweep with its cap; its count of pages evicted was `before` and is `after`
  pub data Gets (home cap f : ℕ) (old new : List ℕ) (before after : ℕ) (v w : View X) : Type 0 where
    once : IsAlloc home cap 1 old new v w (allocs.Batch (f ∷ [])) → after ≡ before → Gets home cap f old new before after v w
    swept :
        (dry clean : View X) (emptied filled : List ℕ) (report : Report) → IsAlloc home cap 1 old emptied v dry allocs.Dry
        → IsSwept cap cap emptied filled report dry clean → IsAlloc home cap 1 filled new clean w (allocs.Batch (f ∷ []))
        → after ≡ counted before report → Gets home cap f old new before after v w

  -- it got none: the bits asked for were lost, before a sweep or after it; or no frame was free after a sweep either
  pub data GetsNone (home cap : ℕ) (old new : List ℕ) (before after : ℕ) (v w : View X) (answer : Bring) : Type 0 where
    lost :
        (saw : Saw) → IsAlloc home cap 1 old new v w (allocs.Again saw) → after ≡ before → answer ≡ brings.Again saw
        → GetsNone home cap old new before after v w answer
    lost_then :
        (saw : Saw) (dry clean : View X) (emptied filled : List ℕ) (report : Report) → IsAlloc home cap 1 old emptied v dry allocs.Dry
        → IsSwept cap cap emptied filled report dry clean → IsAlloc home cap 1 filled new clean w (allocs.Again saw)
        → after ≡ counted before report → answer ≡ brings.Again saw → GetsNone home cap old new before after v w answer
    dry :
        (dry clean : View X) (emptied filled : List ℕ) (report : Report) → IsAlloc home cap 1 old emptied v dry allocs.Dry
        → IsSwept cap cap emptied filled report dry clean → IsAlloc home cap 1 filled new clean w allocs.Dry → after ≡ counted before report
        → SaysDry report answer → GetsNone home cap old new before after v w answer

  -- it got this frame, or none, with this answer
  abbrev pub IsFramed : ℕ → ℕ → List ℕ → List ℕ → ℕ → ℕ → View X → View X → Result ℕ Bring → Type 0
  IsFramed home cap old new before after v w (Ok f) = Gets home cap f old new before after v w
  IsFramed home cap old new before after v w (Err answer) = GetsNone home cap old new before after v w answer

  -- the page was brought into the frame f, or not, and then the frame is the interface's again, or in its bundle
  pub data Fetches (cap p f : ℕ) (old new : List ℕ) (v w : View X) (answer : Bring) : Type 0 where
    brought : IsFetched p f v w fetches.Brought → new ≡ old → answer ≡ brings.Brought → Fetches cap p f old new v w answer
    again :
        (saw : Saw) (x : View X) → IsFetched p f v x (fetches.Again f saw) → IsFreed cap old (f ∷ []) new x w → answer ≡ brings.Again saw
        → Fetches cap p f old new v w answer
    worn : (x : View X) → IsFetched p f v x (fetches.Worn f p) → IsFreed cap old (f ∷ []) new x w
        → answer ≡ brings.Worn p → Fetches cap p f old new v w answer
    device :
        (count : ℕ) (x : View X) → IsFetched p f v x (fetches.Device f p count) → IsFreed cap old (f ∷ []) new x w
        → answer ≡ brings.Device p count → Fetches cap p f old new v w answer

  -- what `bring` of page p answers, by an interface that had the frames `old` and then has the frames `new`; its count of pages evicted was
  -- `before` and is `after`
  pub data IsBring (home cap p : ℕ) (old new : List ℕ) (before after : ℕ) (v w : View X) (answer : Bring) : Type 0 where
    framed :
        (f : ℕ) (kept : List ℕ) (x : View X) → Gets home cap f old kept before after v x → Fetches cap p f kept new x w answer
        → IsBring home cap p old new before after v w answer
    frameless : GetsNone home cap old new before after v w answer → IsBring home cap p old new before after v w answer

  -- what a pass that is alone is answered, where it knows that page p is evicted below the last version and that a
  -- frame is free: the page is
  -- brought, unless its device failed, as the bound of the page's block allows
  abbrev pub IsSure : ℕ → View X → View X → Bring → Type 0
  IsSure p v w answer =
      (answer ≡ brings.Brought)
      ⊎ ((count : ℕ) × (answer ≡ brings.Device p count) × (w.notes ≡ v.notes ++ record { page = p; count = count } ∷ [])
      × (1 ≤ count) × (count ≤ at 0 v.start.bounds p))

  -- the pass holds just the locks that it held, and knows of the pages that it has locked what it knew; it made no
  -- entry, and has its block at
  -- home; its group, the pages that it owes and the next page that it knows are as they were; what it has seen of
  -- entries and releases, its notes and its
  -- steps go on
  pub record KeepsLocks (v w : View X) : Type 0 where
    pub holds : (q : ℕ) → HoldsPage v w q
    pub knows : (q : ℕ) → IsLocking (seat_of v q) → KnowsAsBefore v w q
    pub mine : w.mine ≡ v.mine
    pub out : w.out ≡ v.out
    pub start : w.start ≡ v.start
    pub parts : (w.used ≡ v.used) × (w.fresh ≡ v.fresh)
    pub group : (w.pending ≡ v.pending) × (w.owed ≡ v.owed) × (w.next ≡ v.next)
    pub numbers : KeepsNumbers v w
    pub seen : StartsWith w.seen v.seen
    pub releases : StartsWith w.releases v.releases
    pub notes : StartsWith w.notes v.notes
    pub log : StartsWith w.log v.log
    pub alone : StaysAlone v w
