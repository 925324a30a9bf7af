-- A pass that is told by another what that one had seen of the two lists: the view until its next step, and after a
-- step that takes over just that.
use Rattle.std.specs.Prelude.{[], ◌++◌, ◌∷◌, ◌≡◌, ℕ}
use Rattle.vm_rule.specs.{declared.view.Did.Did, declared.view.View.View, Log.did_load, Reading.last_of, Sound.Sound}
use Rattle.vm_rule.specs.declared.view.WordPlace.TheVariants as places
use Rattle.vm_rule.specs.Views.{Hears, IsLocking, seat_of}

module _ {X : Type 0} where
  -- a pass that has nothing but what it has seen of the two lists: no part, and no note
  pub record OnlyKnows (w : View X) : Type 0 where
    pub used : w.used ≡ []
    pub fresh : w.fresh ≡ []
    pub notes : w.notes ≡ []

  -- the pass v after it took in w, which only knows: it is told what w had seen, until its next step
  abbrev pub hearer : View X → View X → View X
  hearer v w = record v { told_releases = w.releases; told = w.seen; told_used = [] }

  -- a pass that takes over just what it was told, by a step
  abbrev pub follower : View X → Did → View X
  follower v did = record v {
    releases = v.told_releases;
    seen = v.told;
    told_releases = [];
    told = [];
    told_used = [];
    log = v.log ++ did ∷ [];
  }

  -- The pass v was told of lists that go on from those that it had seen, loaded the next word, took them over, and
  -- has the view x. Between what it had seen and what it was told stands no entry with one of its numbers, and no
  -- release of a page that it has locked.
  pub record TakesOver (v x : View X) : Type 0 where
    pub found : ℕ
    pub view : x ≡ follower v (did_load places.Next found)
    pub heard : Hears v.told v.used v.seen
    pub kept : (p : ℕ) → IsLocking (seat_of v p) → last_of x p ≡ last_of v p
    pub sound : Sound x
