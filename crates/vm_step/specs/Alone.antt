-- A pass that is alone knows the whole table: what a run of its steps leaves of the table as it knows it.
use Rattle.std.specs.Prelude.{[], ◌++◌, ◌<◌, ◌∷◌, ◌≡◌, ◌⊎◌, false, length, List, None, slice_index, true, ℕ}
use Rattle.vm_event.specs.Prelude.{EVICTED, MARKED, state_of, UNLOCKED}
use Rattle.vm_rule.specs.{declared.view.Did.Did, declared.view.Origin.Origin, declared.view.Release.Release}
use Rattle.vm_rule.specs.{declared.view.View.View, declared.view.WordPlace.WordPlace}
use Rattle.vm_rule.specs.Prelude.{Each, index_of, IsFoundAt, IsWhole, seat_of, set_if, width, Within}
use Rattle.vm_rule.specs.declared.view.WordPlace.TheVariants as places
use Rattle.vm_step.specs.Evidence.{HasWritten}

-- the words before and after these steps: each found the word that stood there, and left the one that it wrote
abbrev pub Follows : Origin → List Did → List ℕ → List ℕ → Type 0
Follows start [] old new = new ≡ old
Follows start (d ∷ ds) old new =
    IsFoundAt d.found (index_of start d.at) old × Follows start ds (set_if d.wrote (index_of start d.at) old) new

-- none of these steps leaves a word at this place
abbrev pub WritesNone : WordPlace → List Did → Type 0
WritesNone at done = Each (λ d. d.at ≡ at → d.wrote ≡ None) done

-- one of these steps leaves this word at this place, and none after it leaves one there
pub record LeavesLast (done : List Did) (at : WordPlace) (word : ℕ) : Type 0 where
  pub written : HasWritten done at word
  pub none_after : WritesNone at written.later

-- of these steps just those named left a word at this place, in this order
abbrev pub LeavesOnly : WordPlace → List Did → List Did → Type 0
LeavesOnly at [] done = WritesNone at done
LeavesOnly at (d ∷ ds) done = (earlier : List Did) × (later : List Did) × (done ≡ earlier ++ d ∷ later)
    × WritesNone at earlier × LeavesOnly at ds later

-- a page with this word is locked by nobody, resident or not
abbrev pub LocksNone : ℕ → Type 0
LocksNone word = (state_of word ≡ UNLOCKED) ⊎ ((state_of word ≡ MARKED) ⊎ (state_of word ≡ EVICTED))

module _ {X : Type 0} where
  -- the pass has all parts, and knows the table
  abbrev pub IsAlone : View X → Type 0
  IsAlone v = IsWhole v × (v.current ≡ true)

  -- the word at this place, as the pass knows the table
  abbrev pub known_word_at : View X → WordPlace → ℕ
  known_word_at v at = slice_index v.snapshot.words (index_of v.start at)

  -- a pass that is alone: a page that it neither holds nor shares is locked by nobody
  abbrev pub KnowsUnheld : View X → Type 0
  KnowsUnheld w = IsAlone w → (q : ℕ) → q < w.start.pages → (seat_of w q).exclusive ≡ false → (seat_of w q).shares ≡ 0 →
      LocksNone (known_word_at w (places.State q))

  -- the call made these steps, each on a word of the table, and these releases; where the pass was alone, nothing
  -- else happened to the table's
  -- words, of which it knows all, and to its releases
  pub record RunsAlone (done : List Did) (own : List Release) (v w : View X) : Type 0 where
    pub inside : Each (λ d. Within v.start d.at) done
    pub current : v.current ≡ true → w.current ≡ true
    pub releases : IsWhole v → v.current ≡ true → w.releases ≡ v.releases ++ own
    pub words : IsWhole v → v.current ≡ true → Follows v.start done v.snapshot.words w.snapshot.words
    pub wide : IsWhole v → v.current ≡ true → (done ≡ []) ⊎ (length v.snapshot.words ≡ width v.start)

  -- after these steps a pass that was alone knows the word at each place: where a step left one, the last one left
  -- there, and elsewhere the word
  -- that it knew
  pub record KnowsAfter (done : List Did) (v w : View X) : Type 0 where
    pub kept : IsAlone v → (at : WordPlace) → Within v.start at → WritesNone at done
        → known_word_at w at ≡ known_word_at v at
    pub left : IsAlone v → (at : WordPlace) (word : ℕ) → LeavesLast done at word → known_word_at w at ≡ word
