-- A worker before and after its calls.
use Rattle.std.specs.Prelude.{◌++◌, ◌<◌, ◌≡◌, All, Bool, length, List, map, slice_index, slice_index_or, ℕ}
use Rattle.vm_rule.specs.Prelude.{Each, Entry, HoldsNoPage, TableId}
use Rattle.vm_rule.specs.declared.view.WordPlace.TheVariants as places
use Rattle.vm_step.specs.Prelude.{Did, HasGiven, HasJoined, IsReady, TableShape, View, view}
use Rattle.vm_workers.specs.{declared.worker.Job.Job, declared.worker.PageWorker.PageWorker}

module _ {X : Type 0} where
  -- the pass made no entry and no note, and has the parts that it had
  pub record SaysNothing (v w : View X) : Type 0 where
    pub start : w.start ≡ v.start
    pub used : w.used ≡ v.used
    pub fresh : w.fresh ≡ v.fresh
    pub mine : w.mine ≡ v.mine
    pub notes : w.notes ≡ v.notes
    pub nothing : HoldsNoPage v → HoldsNoPage w

  -- the pass made some entries under its first number, and no note, and has the parts that it had
  pub record MakesEntries (v w : View X) : Type 0 where
    pub start : w.start ≡ v.start
    pub used : w.used ≡ v.used
    pub fresh : w.fresh ≡ v.fresh
    pub entries : List (Entry X)
    pub mine : w.mine ≡ v.mine ++ entries
    pub numbered : Each (λ e. e.number ≡ slice_index v.used 0) entries
    pub notes : w.notes ≡ v.notes
    pub nothing : HoldsNoPage v → HoldsNoPage w

  -- the pass made steps by which it came from one view to the other, and found this word of page p in one of them
  pub record HasFoundWord (p word : ℕ) (v w : View X) : Type 0 where
    pub done : List Did
    pub log : w.log ≡ v.log ++ done
    pub given : HasGiven done (places.State p) word

  -- the first n answers, each to the call at its place, are words that the pass found of the pages asked, in such steps
  pub record AreFound (n : ℕ) (calls replies : List ℕ) (v w : View X) : Type 0 where
    pub done : List Did
    pub log : w.log ≡ v.log ++ done
    pub given : (i : ℕ) → i < n → HasGiven done (places.State (slice_index calls i)) (slice_index replies i)

-- the calls are of the table's pages, and there is room for their answers
pub record MayDo (shape : TableShape) (j : Job) : Type 0 where
  pub pages : All (λ p. p < shape.pages) j.calls.items
  pub room : length j.replies.items ≡ length j.calls.items

module _ {U X : Type 0} {o : _} where
  -- the worker may begin: its pass may step on this table, and holds no page
  pub record MayWork (shape : TableShape) (tells : Bool) (t : TableId) (w : PageWorker U X o) : Type 0 where
    pub ready : IsReady shape tells t w.pass
    pub nothing : HoldsNoPage (view w.pass)
    pub job : MayDo shape w.job

  -- the worker has done its calls
  pub record HasDoneJob (shape : TableShape) (tells : Bool) (t : TableId) (v w : PageWorker U X o) : Type 0 where
    pub ready : IsReady shape tells t w.pass
    pub stays : SaysNothing (view v.pass) (view w.pass)
    pub calls : w.job.calls ≡ v.job.calls
    pub replies : length w.job.replies.items ≡ length v.job.calls.items
    pub found : AreFound (length v.job.calls.items) v.job.calls.items w.job.replies.items (view v.pass) (view w.pass)

  -- the views of the workers' passes, and their jobs
  abbrev pub views_of : List (PageWorker U X o) → List (View X)
  views_of ws = map (λ w. view w.pass) ws

  -- the workers did their calls, and the pass with the view v took in their passes then, and has the view x
  pub record AreDoneAndJoined (shape : TableShape) (tells : Bool) (t : TableId) (old : List (PageWorker U X o))
      (v x : View X) : Type 0 where
    pub new : List (PageWorker U X o)
    pub count : length new ≡ length old
    pub worked : (i : ℕ) (d : PageWorker U X o) → i < length old → HasDoneJob shape tells t (slice_index_or old i d)
        (slice_index_or new i d)
    pub joined : HasJoined v (views_of new) x

  -- the worker has done its calls, which may have made entries
  pub record HasSaid (shape : TableShape) (tells : Bool) (t : TableId) (v w : PageWorker U X o) : Type 0 where
    pub ready : IsReady shape tells t w.pass
    pub says : MakesEntries (view v.pass) (view w.pass)
    pub calls : w.job.calls ≡ v.job.calls
    pub replies : length w.job.replies.items ≡ length v.job.calls.items
    pub found : AreFound (length v.job.calls.items) v.job.calls.items w.job.replies.items (view v.pass) (view w.pass)

  -- the workers did their calls, and the pass with the view v took in their passes then, and has the view x
  pub record AreTallied (shape : TableShape) (tells : Bool) (t : TableId) (old : List (PageWorker U X o)) (v x : View X) : Type 0 where
    pub new : List (PageWorker U X o)
    pub count : length new ≡ length old
    pub said : (i : ℕ) (d : PageWorker U X o) → i < length old → HasSaid shape tells t (slice_index_or old i d) (slice_index_or new i d)
    pub joined : HasJoined v (views_of new) x
