-- One operation on a word of the table, by a pass that has no slot out: what the table is asked, and what the
-- operation tells. Each kind of step says the second for itself: of the number found (at a store, the number stored),
-- of the pass's view before, and of its view afterwards.
use Rattle.std.specs.Prelude.{[], ◌+◌, ◌<◌, ◌≡◌, ◌≤◌, Bool, length, true, ℕ}
use Rattle.vm_rule.specs.{declared.view.Origin.Origin, declared.view.TableShape.TableShape}
use Rattle.vm_rule.specs.{declared.view.WordPlace.TheVariants.Content, declared.view.WordPlace.WordPlace}
use Rattle.vm_rule.specs.{declared.view.View.View, Prelude.Allows, Prelude.HasShape, Prelude.index_of, Prelude.Me}
use Rattle.vm_rule.specs.{Prelude.Sound, Prelude.Step, Prelude.Table}

module _ {X : Type 0} where
  -- the pass is one of a table of this shape, with blocks that tell their words or do not
  pub record IsOf (shape : TableShape) (tells : Bool) (v : View X) : Type 0 where
    pub is_shape : HasShape shape v.start
    pub tells_is : v.start.tells ≡ tells

  -- the pass may step on, on a table of this shape
  pub record MayGoOn (shape : TableShape) (tells : Bool) (w : View X) : Type 0 where
    pub table : IsOf shape tells w
    pub number : 0 < length w.used

  -- what a kind of step tells, of a pass of such a table
  abbrev pub told_of : TableShape → Bool → (ℕ → View X → View X → Type 0) → ℕ → View X → View X → Type 0
  told_of shape tells told n v w = MayGoOn shape tells w × told n v w

  -- a pass is fit to step again: it lives, has nothing more to learn from a join, and its view is sound
  pub record IsFit (w : View X) : Type 0 where
    pub live : w.live ≡ true
    pub learned : (w.told_releases ≡ []) × (w.told ≡ [])
    pub number : 0 < length w.used
    pub sound : Sound w

  -- what a step tells, as the table tells it of a seat
  abbrev pub step_play : {S : Type 0} → (ℕ → View X → View X → Type 0) → Step S → Me S (View X) → ℕ → Me S (View X)
      → Type 0
  step_play told st m n m' = told n m.0 m'.0 × IsFit m'.0 × (m'.1 ≡ m.1)

  -- whatever the table is when the word at this place becomes f of what it was, pass id with the view v has a view
  -- afterwards of which this is told
  abbrev pub AllowsStep : {S : Type 0} → (Table S (View X) → Type 0) → ℕ → ℕ → View X → ℕ → (ℕ → ℕ)
      → (ℕ → View X → View X → Type 0) → Type 0
  AllowsStep holds slots id v at f told = Allows holds slots id (v, []) at f (λ n m. told n v m.0 × IsFit m.0 × (m.1 ≡ []))

-- the place stands here, in each table of this shape
abbrev pub IsPlacedAt : TableShape → WordPlace → ℕ → Type 0
IsPlacedAt shape place i = (start : Origin) → HasShape shape start → index_of start place ≡ i

-- the words of frame f begin here, and stand among so many words
pub record IsFrameAt (shape : TableShape) (all f first : ℕ) : Type 0 where
  pub place : IsPlacedAt shape (Content f 0) first
  pub inside : first + shape.size ≤ all
