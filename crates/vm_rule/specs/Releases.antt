-- What a release tells: the draft is the next version. The first release of a group makes the drafts of all its
-- members logical. A page that
-- is not resident is released as evicted.
use Rattle.std.specs.Prelude.{[], ◌&&◌, ◌++◌, ◌+◌, ◌==◌, ◌∷◌, ◌≡◌, false}
use Rattle.std.specs.Prelude.{if◌then◌else◌, List, None, Option, Some, true, ℕ}
use Rattle.vm_event.specs.Prelude.{EVICTED, word_of}
use Rattle.vm_numbers.specs.Hands.{all_zero, freed_of}
use Rattle.vm_owner.specs.{Kept.Change, Numbers.has, Numbers.without}
use Rattle.vm_rule.specs.{Brought.Brings, Brought.entries_of, declared.view.View.View, Log.did_store, Puts.put}
use Rattle.vm_rule.specs.{Reading.last_of, Views.draft_of, Views.seat_of}
use Rattle.vm_rule.specs.declared.view.WordPlace.TheVariants as places

-- without all of these
abbrev pub without_all : List ℕ → List ℕ → List ℕ
without_all [] owed = owed
without_all (q ∷ qs) owed = without_all qs (without q owed)

-- the loaded next word is no more known once its page is given up
abbrev pub next_after : ℕ → Option ℕ → Option ℕ
next_after p None = None
next_after p (Some x) = if x == p then None else Some x

module _ {X : Type 0} where
  -- the change that a release makes of page q, whose draft the pass has
  abbrev pub change_of : View X → ℕ → Change
  change_of v q = record { page = q; old = (last_of v q).words; new = draft_of v q }

  abbrev pub changes_of : View X → List ℕ → List Change
  changes_of v [] = []
  changes_of v (q ∷ qs) = change_of v q ∷ changes_of v qs

  -- the numbers that the pass holds after it gave up page p: of a page whose words are not all 0 it holds the number
  -- no more; where the blocks do not tell
  -- their words, of none
  abbrev pub numbers_left : ℕ → View X → List ℕ
  numbers_left p v = if v.start.tells && all_zero (draft_of v p) then v.numbers else without p v.numbers

  -- those of the group that its first release frees: their words were not all 0, and their drafts' are
  abbrev pub freed_by : View X → List ℕ → List ℕ
  freed_by v qs = freed_of (λ q. (last_of v q).words) (draft_of v) qs

  -- p is released: alone, or first of a group, whose other members are pending then; or as a pending member
  abbrev pub released_view : ℕ → List ℕ → Option X → View X → View X
  released_view p rest said v =
      record v {
        seats = put p (record (seat_of v p) { exclusive = false }) v.seats;
        pending = if has p v.pending then without p v.pending else rest ++ v.pending;
        owed = without_all (p ∷ rest) v.owed;
        numbers = numbers_left p v;
        freed = if has p v.pending then v.freed else freed_by v (p ∷ rest) ++ v.freed;
        next = next_after p v.next;
        mine = v.mine ++ entries_of v said;
      }

  -- a release: the draft is the next version; as the first of a group it makes the others' drafts logical, and they
  -- are pending
  pub record ReleaseTold (p version : ℕ) (rest : List ℕ) (said : Option X) (v w : View X) : Type 0 where
    pub brings : Brings (did_store (places.State p) (version + 1)) (record { page = p; version = version + 1; words = draft_of v p } ∷ [])
        (entries_of v said) v (released_view p rest said v) w
    -- with the words that the page had, the pass holds the numbers that it held
    pub numbers : v.start.tells ≡ true → draft_of v p ≡ (last_of v p).words → numbers_left p v ≡ v.numbers

  -- p, which is not resident, is released as evicted
  abbrev pub evicted_view : ℕ → View X → View X
  evicted_view p v = record v { seats = put p (record (seat_of v p) { exclusive = false }) v.seats; next = next_after p v.next }

  -- its words are those that it had
  pub record EvictTold (p version : ℕ) (v w : View X) : Type 0 where
    pub brings : Brings (did_store (places.State p) (word_of EVICTED (version + 1)))
        (record { page = p; version = version + 1; words = draft_of v p } ∷ []) [] v (evicted_view p v) w
    pub same : v.start.tells ≡ true → draft_of v p ≡ (last_of v p).words

  -- p is released to a share of the pass
  abbrev pub downgraded_view : ℕ → View X → View X
  downgraded_view p v =
      record v {
        seats = put p (record (seat_of v p) { shares = 1; exclusive = false }) v.seats;
        owed = without p v.owed;
        numbers = numbers_left p v;
        freed = freed_by v (p ∷ []) ++ v.freed;
        next = next_after p v.next;
      }

  -- its draft is its next version
  pub record DowngradeTold (p version : ℕ) (v w : View X) : Type 0 where
    pub brings : Brings (did_store (places.State p) (word_of 1 (version + 1)))
        (record { page = p; version = version + 1; words = draft_of v p } ∷ []) [] v (downgraded_view p v) w
    -- with the words that the page had, the pass holds the numbers that it held
    pub numbers : v.start.tells ≡ true → draft_of v p ≡ (last_of v p).words → numbers_left p v ≡ v.numbers
