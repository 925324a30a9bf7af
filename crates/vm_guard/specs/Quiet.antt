-- What a call leaves of a view that says nothing and changes no lock: the lists and the log go on, and at most the open read of one page is
-- another.
use Rattle.std.specs.Prelude.{[], ◌++◌, ◌≡◌, ◌≢◌, ◌⊎◌, List, None, Some, ℕ}
use Rattle.vm_event.specs.Prelude.{MARKED, state_of, UNLOCKED, version_of, word_of}
use Rattle.vm_rule.specs.Prelude.{Each, IsLocking, seat_of, StartsWith}
use Rattle.vm_rule.specs.declared.view.WordPlace.{WordPlace}
use Rattle.vm_step.specs.Prelude.{Did, HoldsPage, KeepsNumbers, KnowsAsBefore, ReadsAsBefore, Release, RunsAlone, StaysAlone, Tie, View}

-- the steps leave no word
abbrev pub LeavesNone : List Did → Type 0
LeavesNone done = Each (λ d. d.wrote ≡ None) done

-- the step took a mark away: it found a Marked word of a page, and left an Unlocked one of the same version there
pub record IsUnmark (d : Did) : Type 0 where
  pub page : ℕ
  pub word : ℕ
  pub at : d.at ≡ WordPlace.State page
  pub found : d.found ≡ Some word
  pub marked : state_of word ≡ MARKED
  pub wrote : d.wrote ≡ Some (word_of UNLOCKED (version_of word))

-- the steps leave no word but that of page p, where they take its mark away
abbrev pub OnlyUnmarks : ℕ → List Did → Type 0
OnlyUnmarks p done = Each (λ d. (d.wrote ≡ None) ⊎ ((d.at ≡ WordPlace.State p) × IsUnmark d)) done

module _ {X : Type 0} where
  -- the call made these steps and these releases, and leaves the parts of the view that only calls of other kinds change
  pub record IsSteady (done : List Did) (own : List Release) (v w : View X) : Type 0 where
    pub log : w.log ≡ v.log ++ done
    pub live : w.live ≡ v.live
    pub start : w.start ≡ v.start
    pub parts : (w.used ≡ v.used) × (w.fresh ≡ v.fresh)
    pub seen : StartsWith w.seen v.seen
    pub releases : StartsWith w.releases v.releases
    pub frames : (w.frames ≡ v.frames) × (w.contents ≡ v.contents)
    pub out : w.out ≡ v.out
    pub notes : w.notes ≡ v.notes
    pub ties : (more : List Tie) × (w.ties ≡ more ++ v.ties)
    -- a pass that is alone knows the table, and the steps made all that happened to its words, and to its releases
    pub alone : RunsAlone done own v w

  -- the call made these steps, says nothing, and leaves all but the open read of page p
  pub record IsQuiet (p : ℕ) (done : List Did) (v w : View X) : Type 0 where
    pub steady : IsSteady done [] v w
    pub mine : w.mine ≡ v.mine
    pub group : (w.pending ≡ v.pending) × (w.owed ≡ v.owed) × (w.next ≡ v.next)
    pub numbers : KeepsNumbers v w
    pub holds : (q : ℕ) → HoldsPage v w q
    pub knows : (q : ℕ) → IsLocking (seat_of v q) → KnowsAsBefore v w q
    pub others : (q : ℕ) → q ≢ p → ReadsAsBefore v w q
    pub alone : StaysAlone v w

  -- the call left no word of the table: each of its steps only looked, or was an exchange that was lost
  abbrev pub LeavesTable : View X → View X → Type 0
  LeavesTable v w = (done : List Did) × (w.log ≡ v.log ++ done) × LeavesNone done
