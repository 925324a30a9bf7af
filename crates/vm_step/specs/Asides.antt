-- What a call leaves of a view that says nothing and gives up every lock that it took: the locks of all pages are
-- those that the pass had, and
-- at most the open read of one page is another. Frames and notes the call's own clauses tell.
use Rattle.std.specs.Prelude.{◌++◌, ◌≡◌, List, true, ℕ}
use Rattle.vm_rule.specs.Prelude.{draft_of, held_at, IsLocking, IsWhole, last_of, loads_at, seat_of, StartsWith}
use Rattle.vm_rule.specs.{declared.view.Did.Did, declared.view.Tie.Tie, declared.view.View.View}

module _ {X : Type 0} where
  -- the pass has just the locks of page p that it had
  pub record HoldsPage (v w : View X) (p : ℕ) : Type 0 where
    pub shares : (seat_of w p).shares ≡ (seat_of v p).shares
    pub exclusive : (seat_of w p).exclusive ≡ (seat_of v p).exclusive
    pub writing : (seat_of w p).writing ≡ (seat_of v p).writing

  -- what the pass knows of page p, which it has locked, is as it was
  pub record KnowsAsBefore (v w : View X) (p : ℕ) : Type 0 where
    pub held : held_at w p ≡ held_at v p
    pub draft : draft_of w p ≡ draft_of v p
    pub last : last_of w p ≡ last_of v p

  -- the open read of page q is as it was
  pub record ReadsAsBefore (v w : View X) (q : ℕ) : Type 0 where
    pub reading : (seat_of w q).reading ≡ (seat_of v q).reading
    pub loads : loads_at w q ≡ loads_at v q

  -- a pass that is alone finds the last words of each page as they were; and it still knows the table
  pub record StaysAlone (v w : View X) : Type 0 where
    pub current : v.current ≡ true → w.current ≡ true
    pub words : IsWhole v → v.current ≡ true → (q : ℕ) → (last_of w q).words ≡ (last_of v q).words

  -- The pass has the page numbers that it had, those held and those still to be given. It is said where the blocks
  -- tell their words: else a page that is given
  -- up takes its number along, whatever its words.
  abbrev pub KeepsNumbers : View X → View X → Type 0
  KeepsNumbers v w = v.start.tells ≡ true → (w.numbers ≡ v.numbers) × (w.freed ≡ v.freed)

  -- the call made these steps, and at most the open reads of the pages touched are others
  pub record IsAsideOf (touched : ℕ → Type 0) (done : List Did) (v w : View X) : Type 0 where
    pub log : w.log ≡ v.log ++ done
    pub live : w.live ≡ v.live
    pub start : w.start ≡ v.start
    pub parts : (w.used ≡ v.used) × (w.fresh ≡ v.fresh)
    pub mine : w.mine ≡ v.mine
    pub seen : StartsWith w.seen v.seen
    pub releases : StartsWith w.releases v.releases
    pub out : w.out ≡ v.out
    pub ties : (more : List Tie) × (w.ties ≡ more ++ v.ties)
    pub group : (w.pending ≡ v.pending) × (w.owed ≡ v.owed) × (w.next ≡ v.next)
    pub numbers : KeepsNumbers v w
    pub holds : (q : ℕ) → HoldsPage v w q
    pub knows : (q : ℕ) → IsLocking (seat_of v q) → KnowsAsBefore v w q
    pub others : (q : ℕ) → (touched q → ⊥) → ReadsAsBefore v w q
    pub alone : StaysAlone v w

  -- at most that of page p
  abbrev pub IsAside : ℕ → List Did → View X → View X → Type 0
  IsAside p done v w = IsAsideOf (λ q. q ≡ p) done v w

  -- the pass's frames, their words and its notes are as they were
  pub record KeepsFrames (v w : View X) : Type 0 where
    pub frames : w.frames ≡ v.frames
    pub contents : w.contents ≡ v.contents
    pub notes : w.notes ≡ v.notes
