-- The workers of a drive: those that were hired, and those that have done their work.
use Rattle.std.specs.Prelude.{[], ◌*◌, ◌++◌, ◌+◌, ◌/◌, ◌∷◌, ◌≡◌, ◌⊎◌, Bool, false, length, List, map, min, Result}
use Rattle.std.specs.Prelude.{slice_index, true, ℕ}
use Rattle.vm_rule.specs.Prelude.{AreApart, Each, entries_by, has, HoldsNoPage, IsWhole, Kept, owns, Start, StartsWith, TableId, times}
use Rattle.vm_step.specs.Prelude.{Did, IsReady, KnowsAll, Note, TableShape, View, view}
use Rattle.vm_calls.specs.from_vm_pool.Parting.{KeepsAll}
use Rattle.vm_calls.specs.from_vm_tree_rule.declared_fault_TreeFault.{TreeFault}
use Rattle.vm_calls.specs.Prelude.{LosesNone}
use Rattle.vm_calls.specs.{Calling.Calling, Causes.notes_about, declared.worker.Worker.Worker}
use Rattle.vm_calls.specs.{Workers.HasKept, Workers.IsAtWork}
use Rattle.vm_drive.specs.Parts.{StandBehind}

-- the worker's number
abbrev pub number_of : {U X A M : Type 0} {owner : _} → Worker U A M X owner → ℕ
number_of worker = slice_index (view worker.pass).used 0

abbrev pub numbers_of : {U X A M : Type 0} {owner : _} → List (Worker U A M X owner) → List ℕ
numbers_of workers = map number_of workers

-- the memory that the workers have
abbrev pub memories_given : {U X A M : Type 0} {owner : _} → List (Worker U A M X owner) → List M
memories_given workers = map (λ worker. worker.memory) workers

-- how many frames the interface of each of so many workers keeps: a quarter of the worker's share, at most 64
abbrev pub share_of : (frames workers : ℕ) → ℕ
share_of frames workers = min (frames / (4 * workers)) 64

-- the workers' interfaces keep so many frames, and each is at home at its worker's place, from this one on
abbrev pub AreAtHome : {U X A M : Type 0} {owner : _} → (first cap : ℕ) → List (Worker U A M X owner) → Type 0
AreAtHome first cap [] = Unit {0}
AreAtHome first cap (worker ∷ workers) = (worker.iface.home ≡ first) × (worker.iface.cap ≡ cap) × AreAtHome (first + 1) cap workers

module _ {U X A M : Type 0} {owner : _} (shape : TableShape) (tells : Bool) (t : TableId) where
  -- the worker has a part of its own, no frame, and has done nothing
  pub record IsNewWorker (v : View X) (worker : Worker U A M X owner) : Type 0 where
    pub work : IsAtWork shape tells t worker
    pub holds : HoldsNoPage (view worker.pass)
    pub parts : ((view worker.pass).used ≡ number_of worker ∷ []) × ((view worker.pass).fresh ≡ [])
    pub start : (view worker.pass).start ≡ v.start
    pub said : (view worker.pass).mine ≡ []
    pub noted : (view worker.pass).notes ≡ []
    pub log : (view worker.pass).log ≡ []
    pub frames : (view worker.pass).frames ≡ []

  -- The pass with the view v, which then has the view w, gave a part to each of these workers, who have these rooms
  -- for answers and this memory
  pub record AreHired (rooms : List A) (given : List M) (v : View X)
      (workers : List (Worker U A M X owner)) (w : View X) : Type 0 where
    pub kept : KeepsAll v w
    pub mine : w.mine ≡ v.mine
    pub notes : w.notes ≡ v.notes
    pub log : StartsWith w.log v.log
    pub used : w.used ≡ v.used
    pub frames : w.frames ≡ v.frames
    pub count : length v.fresh ≡ length workers + length w.fresh
    pub parts : (k : ℕ) → owns k v ≡ owns k w + times k (numbers_of workers)
    pub apart : AreApart (numbers_of workers)
    pub foreign : Each (λ n. (has n v.used ≡ false) × (has n w.fresh ≡ false)) (numbers_of workers)
    pub unused : Each (λ n. entries_by (n ∷ []) v.seen ≡ []) (numbers_of workers)
    pub each : Each (IsNewWorker v) workers
    pub answers : map (λ (worker : Worker U A M X owner). worker.answers) workers ≡ rooms
    pub memories : memories_given workers ≡ given
    pub all : ((workers ≡ []) × (w ≡ v)) ⊎ (IsWhole v → v.mine ≡ v.seen)

module _ {U X A M C R : Type 0} {owner : _} (keeps : A → List (Result R TreeFault) → Type 0) (room : A → List C → Type 0)
    (suffices : List C → M → Type 0) (shape : TableShape) (tells : Bool) (t : TableId) where
  -- the worker is at work with no page, and has room for answers to the calls, and memory for them
  pub record IsIdle (calls : List C) (worker : Worker U A M X owner) : Type 0 where
    pub work : IsAtWork shape tells t worker
    pub holds : HoldsNoPage (view worker.pass)
    pub empty : keeps worker.answers []
    pub room_for : room worker.answers calls
    pub memory_for : suffices calls worker.memory

  -- there is such a worker for each list
  abbrev pub AreIdle : List (List C) → List (Worker U A M X owner) → Type 0
  AreIdle [] [] = Unit {0}
  AreIdle [] (worker ∷ workers) = ⊥
  AreIdle (calls ∷ lists) [] = ⊥
  AreIdle (calls ∷ lists) (worker ∷ workers) = IsIdle calls worker × AreIdle lists workers

module _ {U X A M C R P : Type 0} {owner : _} (kind : Calling X C R P) (keeps : A → List (Result R TreeFault) → Type 0)
    (shape : TableShape) (tells : Bool) (t : TableId) where
  -- the worker has made the calls, holds no page, and has no frame but those that it had and its interface did not
  pub record HasWorked (calls : List C) (old new : Worker U A M X owner) : Type 0 where
    pub ready : IsReady shape tells t new.pass
    pub holds : HoldsNoPage (view new.pass)
    pub done : HasKept kind keeps calls new.answers (view old.pass) (view new.pass)
    pub lost : LosesNone old.iface.frames (view old.pass) [] (view new.pass)

  -- so has each worker
  abbrev pub AllWorked : List (List C) → List (Worker U A M X owner) → List (Worker U A M X owner) → Type 0
  AllWorked [] [] [] = Unit {0}
  AllWorked (calls ∷ lists) (old ∷ olds) (new ∷ news) = HasWorked calls old new × AllWorked lists olds news
  AllWorked _ _ _ = ⊥

-- how many notes of page p the workers' passes have
abbrev pub all_notes_of : {U X A M : Type 0} {owner : _} → ℕ → List (Worker U A M X owner) → ℕ
all_notes_of p [] = 0
all_notes_of p (worker ∷ workers) = notes_about p (view worker.pass).notes + all_notes_of p workers

-- what keeps the workers' answers
abbrev pub answers_of : {U X A M : Type 0} {owner : _} → List (Worker U A M X owner) → List A
answers_of workers = map (λ worker. worker.answers) workers

-- the steps of the workers' passes, and their notes
abbrev pub worker_logs : {U X A M : Type 0} {owner : _} → List (Worker U A M X owner) → List (List Did)
worker_logs workers = map (λ worker. (view worker.pass).log) workers

abbrev pub worker_notes : {U X A M : Type 0} {owner : _} → List (Worker U A M X owner) → List (List Note)
worker_notes workers = map (λ worker. (view worker.pass).notes) workers

-- the worker's pass went into this one: its number is one of the pass's, and the history has its entries alone under it
pub record IsIn {U X A M : Type 0} {owner : _} (w : View X) (worker : Worker U A M X owner) : Type 0 where
  pub number : has (number_of worker) w.used ≡ true
  pub entries : entries_by (number_of worker ∷ []) w.seen ≡ (view worker.pass).mine
  pub start : (view worker.pass).start ≡ w.start
  pub heard : StartsWith w.seen (view worker.pass).seen
  pub saw : StartsWith w.releases (view worker.pass).releases

-- The passes of the workers, which had no frame, went into the pass that had the view x and has the view w: their
-- steps and notes stand in its own,
-- behind what it had, one worker's behind another's
pub record AreJoined {U X A M : Type 0} {owner : _} (owned : Start → Kept X → Type 0) (tells : Bool) (x : View X)
    (workers : List (Worker U A M X owner)) (w : View X) : Type 0 where
  pub kept : KeepsAll x w
  pub current : w.current ≡ true
  pub used : w.used ≡ x.used ++ numbers_of workers
  pub parts : (k : ℕ) → owns k w ≡ owns k x + times k (numbers_of workers)
  pub notes : (p : ℕ) → notes_about p w.notes ≡ notes_about p x.notes + all_notes_of p workers
  pub logs : StandBehind x.log (worker_logs workers) w.log
  pub noted : StandBehind x.notes (worker_notes workers) w.notes
  pub frames : (f : ℕ) → has f w.frames ≡ has f x.frames
  pub mine : w.mine ≡ entries_by w.used w.seen
  pub ours : entries_by x.used w.seen ≡ x.mine
  pub each : Each (IsIn w) workers
  pub knows : KnowsAll tells owned w

module _ {U X A M : Type 0} {owner : _} (shape : TableShape) (tells : Bool) (t : TableId) where
  -- the worker is back: its pass holds no page and no frame, and has one part, its number
  pub record IsBack (x : View X) (worker : Worker U A M X owner) : Type 0 where
    pub ready : IsReady shape tells t worker.pass
    pub holds : HoldsNoPage (view worker.pass)
    pub frames : (f : ℕ) → has f (view worker.pass).frames ≡ false
    pub parts : ((view worker.pass).used ≡ number_of worker ∷ []) × ((view worker.pass).fresh ≡ [])
    pub start : (view worker.pass).start ≡ x.start
