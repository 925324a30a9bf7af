-- A pass of a worker that sets words of pages, before and after its calls.
use Rattle.std.specs.Prelude.{[], ◌≡◌, ◌≤◌, Bool, List, ℕ}
use Rattle.vm_rule.specs.Prelude.{HoldsNoPage, TableId}
use Rattle.vm_step.specs.Prelude.{AreHeld, IsReady, Pass, TableShape, View, view}

-- the table has the eight pages whose words are set, all claimed
pub record HasPages (shape : TableShape) : Type 0 where
  pub pages : 8 ≤ shape.pages
  pub next : 8 ≤ shape.next

-- the pass has the parts that it had
pub record KeepsParts {X : Type 0} (v w : View X) : Type 0 where
  pub start : w.start ≡ v.start
  pub used : w.used ≡ v.used
  pub fresh : w.fresh ≡ v.fresh

module _ {U X : Type 0} {o : _} where
  -- the pass may step on this table, holds no page, and has the frames of its interface
  pub record MayStartWork (shape : TableShape) (tells : Bool) (t : TableId) (frames : List ℕ) (p : Pass U X o) : Type 0 where
    pub ready : IsReady shape tells t p
    pub nothing : HoldsNoPage (view p)
    pub held : AreHeld frames (view p)

  -- the worker has made its calls
  pub record HasPut (shape : TableShape) (tells : Bool) (t : TableId) (p q : Pass U X o) : Type 0 where
    pub may : MayStartWork shape tells t [] q
    pub parts : KeepsParts (view p) (view q)
