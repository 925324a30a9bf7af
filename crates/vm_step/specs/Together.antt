-- What a pass has after others were split off it, or after it took in others.
use Rattle.std.specs.Prelude.{[], ◌++◌, ◌+◌, ◌||◌, ◌∷◌, ◌≡◌, length, List, true, ℕ}
use Rattle.vm_rule.specs.Prelude.{any, AreApart, CaughtUp, Each, entries_by, has, Hears, HoldsNoPage, JoinTold, owns}
use Rattle.vm_rule.specs.Prelude.{StartsWith, total, view_from}
use Rattle.vm_rule.specs.{declared.view.Note.Note, declared.view.View.View}

-- the list has the other in it, in one piece
pub record HasPiece {A : Type 0} (l m : List A) : Type 0 where
  pub before : List A
  pub behind : List A
  pub cut : l ≡ before ++ (m ++ behind)

module _ {X : Type 0} where
  -- the numbers and the notes of several views, the page numbers that they hold, and those that they have still to
  -- give, one after another
  abbrev pub all_used : List (View X) → List ℕ
  all_used [] = []
  all_used (v ∷ vs) = v.used ++ all_used vs

  abbrev pub all_notes : List (View X) → List Note
  all_notes [] = []
  all_notes (v ∷ vs) = v.notes ++ all_notes vs

  abbrev pub all_numbers : List (View X) → List ℕ
  all_numbers [] = []
  all_numbers (v ∷ vs) = v.numbers ++ all_numbers vs

  abbrev pub all_freed : List (View X) → List ℕ
  all_freed [] = []
  all_freed (v ∷ vs) = v.freed ++ all_freed vs

  -- the pass w was brought up to date, and then the pass v took it in
  pub record TakesIn (v w x : View X) : Type 0 where
    pub middle : View X
    pub caught : CaughtUp w middle
    pub joins : JoinTold v middle x

  -- The pass with the view v took in those with the views `others`, and has the view x then: its numbers and notes
  -- are its own and then theirs, and so are its page numbers and its frames; the history that it knows goes on from
  -- what each of them had seen, and has no further entry of any of them.
  pub record HasJoined (v : View X) (others : List (View X)) (x : View X) : Type 0 where
    pub start : x.start ≡ v.start
    pub used : x.used ≡ v.used ++ all_used others
    pub notes : x.notes ≡ v.notes ++ all_notes others
    pub numbers : (x.numbers ≡ v.numbers ++ all_numbers others) × (x.freed ≡ v.freed ++ all_freed others)
    pub parts : (k : ℕ) → owns k x ≡ owns k v + total (owns k) others
    pub frames : (f : ℕ) → has f x.frames ≡ (any (λ w. has f w.frames) others || has f v.frames)
    -- its steps go on from its own, and those of each are among them
    pub log : StartsWith x.log v.log
    pub logs : Each (λ w. HasPiece x.log w.log) others
    pub heard : Hears x.seen v.used v.seen
    pub each : Each (λ w. Hears x.seen w.used w.seen) others
    pub saw : StartsWith x.releases v.releases
    pub saw_each : Each (λ w. StartsWith x.releases w.releases) others
    -- in the history that the pass knows now, the entries with the numbers of each are those that it had as its own
    pub entries : Each (λ w. entries_by w.used x.seen ≡ w.mine) others
    pub nothing : HoldsNoPage v → HoldsNoPage x
    pub current : v.current ≡ true → x.current ≡ true

  -- a pass that was split off one with the view x: it has one number, knows what the other knows of the two lists,
  -- and knows, has and holds nothing else
  pub record IsNew (x w : View X) : Type 0 where
    pub number : length w.used ≡ 1
    pub new : w ≡ record (view_from true x.start w.used []) { releases = x.releases; seen = x.seen }

  -- The pass with the view v was brought up to date, and these passes were split off it, each with the next of its
  -- fresh parts as its number;
  -- it has the view x then. All else of it is as the load left it.
  pub record PassesSplit (v : View X) (others : List (View X)) (x : View X) : Type 0 where
    pub middle : View X
    pub caught : CaughtUp v middle
    pub left : x ≡ record middle { fresh = x.fresh }
    pub fresh : all_used others ++ x.fresh ≡ v.fresh
    -- no part stands twice, so nobody has a number of another
    pub apart : AreApart (v.used ++ v.fresh)
    pub parts : (k : ℕ) → owns k v ≡ owns k x + total (owns k) others
    pub each : Each (IsNew x) others
