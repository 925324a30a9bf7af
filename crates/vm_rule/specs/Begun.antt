-- The rule of a table that is made with its shape. How it began, with its first words and blocks, the shape has for
-- proofs alone: the first step of its first pass learns them. Until then the first view stands for nothing but its
-- parts.
use Rattle.std.specs.Prelude.{[], ◌∷◌, ◌≡◌, ◌⊎◌, Bool, false, List, Option, slice_index, ℕ}
use Rattle.atomic_table.specs.Table.{Me, State as Table, Step}
use Rattle.vm_block.specs.declared.stored.Stored.{Stored}
use Rattle.vm_owner.specs.Kept.{Kept, Start}
use Rattle.vm_rule.specs.{Brought.brought, declared.view.Origin.Origin, declared.view.TableShape.TableShape}
use Rattle.vm_rule.specs.{declared.view.View.View, Log.did_load, Rule.Ruled, Rule.snapshot_of, Sound.Sound}
use Rattle.vm_event.specs.Prelude.{GroupsFit}
use Rattle.vm_rule.specs.{Spread.spread_table, Views.first_view, Views.numbers, Views.view_from}
use Rattle.vm_rule.specs.declared.view.WordPlace.TheVariants as places

-- the shape of a table without pages
abbrev pub no_shape : TableShape
no_shape =
    record {
      size = 0;
      pages = 0;
      frames = 0;
      version = 0;
      next = 0;
      began = record {
        origin = record { tells = false; size = 0; pages = 0; frames = 0; version = 0; next = 0; free = []; groups = []; contents = []; bounds = [] };
        snapshot = record { words = []; blocks = [] };
      };
    }

-- the table began with this shape, and just so
pub record HasShape (shape : TableShape) (start : Origin) : Type 0 where
  pub same : start ≡ shape.began.origin
  pub size : start.size ≡ shape.size
  pub pages : start.pages ≡ shape.pages
  pub frames : start.frames ≡ shape.frames
  pub version : start.version ≡ shape.version
  pub next : start.next ≡ shape.next

module _ {X : Type 0} where
  -- the first pass before its first step: it has all parts, and does not live yet. How the table began it has for
  -- that step to tell
  abbrev pub unborn : TableShape → View X
  unborn shape = record (view_from false shape.began.origin (0 ∷ []) (numbers 1 4294967295)) { snapshot = shape.began.snapshot }

  -- and after it: it has loaded the first state word, and knows how the table began
  abbrev pub begun : View X → View X
  begun v = brought (first_view v.start) [] [] v.snapshot (did_load (places.State 0) (slice_index v.snapshot.words 0))

  -- what that step tells
  abbrev pub begin_play : {S : Type 0} → Step S → Me S (View X) → ℕ → Me S (View X) → Type 0
  begin_play step m found m' = (m'.0 ≡ begun m.0) × Sound m'.0 × (m'.1 ≡ m.1)

  module _ {B : Type 0} (stored : B → Stored) (keeps : Start → Kept X → Type 0) (tied : Start → ℕ → List ℕ → ℕ → List ℕ → Type 0) where
    -- the table, as its pages read it, meets the rule; or it has its first words and blocks, and would meet the rule
    -- with the first pass's view
    pub record Stands (shape : TableShape) (tells : Bool) (s : Table (Option B) (View X)) : Type 0 where
      pub start : Origin
      pub is_shape : HasShape shape start
      pub fit : GroupsFit start.pages start.groups
      pub rule :
          Ruled stored keeps tied start tells (spread_table start s)
          ⊎ ((s.views ≡ unborn shape ∷ [])
          × Ruled stored keeps tied start tells (record (spread_table start s) { views = first_view start ∷ [] })
          × (snapshot_of stored start (spread_table start s) ≡ shape.began.snapshot))
