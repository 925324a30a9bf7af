-- The places where a call for fresh pages makes its steps, and what a pass that was alone knows of all others.
use Rattle.std.specs.Prelude.{◌*◌, ◌<◌, ◌≡◌, List, true, ℕ}
use Rattle.vm_rule.specs.Prelude.{has}
use Rattle.vm_rule.specs.declared.view.WordPlace.{WordPlace}
use Rattle.vm_rule.specs.declared.view.WordPlace.TheVariants.{Content, Next, Owner, Spare, State, Translation}
use Rattle.vm_step.specs.Prelude.{IsAlone, KnowsElse, Origin, View}

-- A step of a call for these pages is at the state or translation word of one of them, at the next word, at a
-- free-number word, or at a word of a frame or its
-- owner word. So the call reads no block: a block is moved by steps at a page's fault word.
abbrev pub IsPlaceOf : Origin → List ℕ → WordPlace → Type 0
IsPlaceOf start pages (State p) = (p < start.pages) × (has p pages ≡ true)
IsPlaceOf start pages (Translation p) = (p < start.pages) × (has p pages ≡ true)
IsPlaceOf start pages (Content f i) = (f < start.frames) × (i < start.size)
IsPlaceOf start pages (Owner f) = f < start.frames
IsPlaceOf start pages Next = Unit {0}
IsPlaceOf start pages (Spare g) = g * 64 < start.pages
IsPlaceOf start pages at = ⊥

module _ {X : Type 0} where
  -- a pass that was alone knows the words at all other places as they were
  abbrev pub KnowsOthers : List ℕ → View X → View X → Type 0
  KnowsOthers pages v w = IsAlone v → KnowsElse (IsPlaceOf v.start pages) v w
