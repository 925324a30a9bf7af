-- What a raise of a fault word tells: it becomes the count of the page's block, and a count that it rises to is noted.
use Rattle.std.specs.Prelude.{[], ◌++◌, ◌==◌, ◌||◌, ◌∷◌, if◌then◌else◌, List, nat_lt, ℕ}
use Rattle.vm_event.specs.Prelude.{MAX_COUNT}
use Rattle.vm_rule.specs.{Brought.Brings, declared.view.Note.Note, declared.view.View.View}
use Rattle.vm_rule.specs.{Log.did_store, Mappings.held_at, Puts.put}
use Rattle.vm_rule.specs.declared.view.WordPlace.TheVariants as places

-- a count that the fault word rises to is noted; so is the last count, each time
abbrev pub notes_of : ℕ → ℕ → ℕ → List Note
notes_of p fault count = if nat_lt fault count || count == MAX_COUNT then record { page = p; count = count } ∷ [] else []

module _ {X : Type 0} where
  abbrev pub raised_view : ℕ → ℕ → View X → View X
  raised_view p count v =
      record v { held = put p (record (held_at v p) { fault = count }) v.held; notes = v.notes ++ notes_of p (held_at v p).fault count }

  -- the fault word was raised to the count of the page's block
  pub record RaiseTold (p count : ℕ) (v w : View X) : Type 0 where
    pub brings : Brings (did_store (places.Fault p) count) [] [] v (raised_view p count v) w
