-- What a pass that was alone knows of the table's words after a call.
use Rattle.std.specs.Prelude.{◌<◌, ◌≡◌, length, ℕ}
use Rattle.vm_rule.specs.{declared.view.View.View, declared.view.WordPlace.WordPlace, Prelude.index_of, Prelude.Within}
use Rattle.vm_step.specs.Alone.{IsAlone, known_word_at}

module _ {X : Type 0} where
  -- the pass knows this word to be at this place, where the table has the place
  abbrev pub KnowsAt : WordPlace → ℕ → View X → Type 0
  KnowsAt place word v = index_of v.start place < length v.snapshot.words → known_word_at v place ≡ word

  -- a pass that was alone knows the words of the table as they were
  abbrev pub KnowsSame : View X → View X → Type 0
  KnowsSame v w = IsAlone v → w.snapshot.words ≡ v.snapshot.words

  -- the pass knows the words at all places but those touched as they were, and as many words
  pub record KnowsElse (touched : WordPlace → Type 0) (v w : View X) : Type 0 where
    pub count : length w.snapshot.words ≡ length v.snapshot.words
    pub words : (at : WordPlace) → Within v.start at → (touched at → ⊥) → known_word_at w at ≡ known_word_at v at
