-- A pass that is split, and one that takes in another: the views afterwards, and what the call tells of a join.
use Rattle.std.specs.Prelude.{[], ◌++◌, ◌∷◌, ◌≡◌, Bool, false, if◌then◌else◌, length, List, nat_lt, None, true, ℕ}
use Rattle.vm_rule.specs.{Brought.Brings, Bundles.with_contents, declared.view.View.View, Log.did_load, Puts.put_at}
use Rattle.vm_rule.specs.declared.view.WordPlace.TheVariants as places
use Rattle.vm_rule.specs.Views.{entries_by, Hears, seat_of, StartsWith, view_from}

-- the first of the parts, and the others
abbrev pub first_part : List ℕ → List ℕ
first_part [] = []
first_part (n ∷ ns) = n ∷ []

abbrev pub other_parts : List ℕ → List ℕ
other_parts [] = []
other_parts (n ∷ ns) = ns

-- no share, no exclusive lock, no write-back, and no block out
pub record HoldsNoPage {X : Type 0} (v : View X) : Type 0 where
  pub shares : (p : ℕ) → (seat_of v p).shares ≡ 0
  pub exclusive : (p : ℕ) → (seat_of v p).exclusive ≡ false
  pub writing : (p : ℕ) → (seat_of v p).writing ≡ false
  pub out : v.out ≡ None

module _ {X : Type 0} where
  -- ---- split

  -- the part that goes over: the first fresh one, or none
  abbrev pub given_part : Bool → View X → List ℕ
  given_part part v = if part then first_part v.fresh else []

  -- the pass that was split: it keeps all but that part
  abbrev pub giver : Bool → View X → View X
  giver part v = record v { fresh = if part then other_parts v.fresh else v.fresh }

  -- the new pass: it has that part as its number, knows what the other had seen, and holds nothing
  abbrev pub newcomer : Bool → View X → View X
  newcomer part v = record (view_from true v.start (given_part part v) []) { releases = v.releases; seen = v.seen }

  -- ---- join

  -- of what both had seen of the history, the longer
  abbrev pub knows_more : View X → View X → Bool
  knows_more v w = nat_lt (length v.seen) (length w.seen)

  -- the pass v after it took in w, which holds no page: it has what both had of parts, frames, notes and steps; the
  -- open reads, ties and translations of w are gone. Of the lists it knows for itself the longer history and its own
  -- releases; the others are told at its next step
  abbrev pub joined : View X → View X → View X
  joined v w =
      record v {
        frames = w.frames ++ v.frames;
        contents = with_contents (put_at [] w.contents) w.frames v.contents;
        numbers = v.numbers ++ w.numbers;
        freed = v.freed ++ w.freed;
        notes = v.notes ++ w.notes;
        seen = if knows_more v w then w.seen else v.seen;
        mine = entries_by (v.used ++ w.used) (if knows_more v w then w.seen else v.seen);
        used = v.used ++ w.used;
        fresh = v.fresh ++ w.fresh;
        told_releases = w.releases;
        told = if knows_more v w then v.seen else w.seen;
        told_used = if knows_more v w then v.used else w.used;
        current = false;
        log = v.log ++ w.log;
      }

  -- a load of the next word: both lists are brought up to date, and nothing else changes
  pub record CaughtUp (v x : View X) : Type 0 where
    pub found : ℕ
    pub brings : Brings (did_load places.Next found) [] [] v v x

  -- The pass v took in w, caught up, and has the view x. What either had seen of the two lists they begin with, and
  -- neither had made an entry
  -- behind it.
  pub record JoinTold (v w x : View X) : Type 0 where
    pub caught : CaughtUp (joined v w) x
    pub heard : Hears x.seen v.used v.seen × Hears x.seen w.used w.seen
    pub saw : StartsWith x.releases v.releases × StartsWith x.releases w.releases
    pub mine : x.mine ≡ entries_by (v.used ++ w.used) x.seen
