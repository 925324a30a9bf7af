-- What a split of one pass and a join of one tell of the views.
use Rattle.std.specs.Prelude.{[], ◌++◌, ◌+◌, ◌∷◌, ◌≡◌, Bool, false, List, true, ℕ}
use Rattle.vm_rule.specs.Prelude.{CaughtUp, entries_by, giver, has, Hears, IsWhole, Kept, owns, Start, StartsWith, view_from}
use Rattle.vm_clock.specs.from_vm_step.Prelude.{Did, HasStill, HoldsPage, KnowsAll, View}

module _ {X : Type 0} where
  -- the pass has what it had, but for parts
  pub record KeepsAll (v w : View X) : Type 0 where
    pub holds : (q : ℕ) → HoldsPage v w q
    pub out : w.out ≡ v.out
    pub start : w.start ≡ v.start
    pub seen : StartsWith w.seen v.seen

  -- the pass with the view v, which then has the view w, gave its first fresh part to a new pass, which has the view u
  pub record Splits (v u w : View X) : Type 0 where
    -- it was brought up to date before, and all else of it is as that load left it
    pub middle : View X
    pub caught : CaughtUp v middle
    pub left : w ≡ giver true middle
    pub number : ℕ
    pub kept : KeepsAll v w
    pub given : v.fresh ≡ number ∷ w.fresh
    -- no pass has a number twice, and a fresh part has no entry
    pub foreign : (has number v.used ≡ false) × (has number w.fresh ≡ false)
    pub unused : entries_by (number ∷ []) w.seen ≡ []
    -- the new pass has the part as its number, knows what the other knows of the two lists, and knows, has and holds nothing else
    pub new : u ≡ record (view_from true v.start (number ∷ []) []) { releases = w.releases; seen = w.seen }
    -- a pass with all parts has made every entry
    pub all : IsWhole v → v.mine ≡ v.seen

  -- the pass with the view v has the view w after the one with the view u went into it: its parts, page numbers,
  -- notes and steps stand behind the pass's
  -- own, its frames before them, and both lists go on from what either had seen
  pub record Joins (tells : Bool) (keeps : Start → Kept X → Type 0) (v u w : View X) : Type 0 where
    pub kept : KeepsAll v w
    pub current : w.current ≡ true
    pub used : w.used ≡ v.used ++ u.used
    pub fresh : w.fresh ≡ v.fresh ++ u.fresh
    pub parts : (k : ℕ) → owns k w ≡ owns k v + owns k u
    pub notes : w.notes ≡ v.notes ++ u.notes
    pub frames : w.frames ≡ u.frames ++ v.frames
    pub numbers : (w.numbers ≡ v.numbers ++ u.numbers) × (w.freed ≡ v.freed ++ u.freed)
    pub steps : List Did
    pub log : w.log ≡ (v.log ++ u.log) ++ steps
    pub heard : StartsWith w.seen u.seen
    pub saw : StartsWith w.releases v.releases × StartsWith w.releases u.releases
    -- its entries are those with one of its numbers, all, in order; so were its own, and those of the other
    pub mine : w.mine ≡ entries_by w.used w.seen
    pub ours : entries_by v.used w.seen ≡ v.mine
    pub theirs : entries_by u.used w.seen ≡ u.mine
    -- and it knows what a pass knows that was brought up to date
    pub knows : KnowsAll tells keeps w

  -- the passes with the views v and w have the views x and y after they met: they have seen one and the same of both
  -- lists, which go on from what each
  -- had seen, with no further entry of either; and each has what it had
  pub record HaveMet (v w x y : View X) : Type 0 where
    pub same : (y.seen ≡ x.seen) × (y.releases ≡ x.releases)
    pub heard : Hears x.seen v.used v.seen × Hears x.seen w.used w.seen
    pub saw : StartsWith x.releases v.releases × StartsWith x.releases w.releases
    pub still : HasStill v x × HasStill w y
