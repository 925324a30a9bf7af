-- What the steps of a call that speaks of one page leave of a view, whatever they do to that page; and what steps
-- leave of a page that they work
-- on while the pass has it locked.
use Rattle.std.specs.Prelude.{[], ◌++◌, ◌≡◌, ◌≢◌, List, ℕ}
use Rattle.vm_rule.specs.Prelude.{draft_of, held_at, IsLocking, last_of, loads_at, seat_of, StartsWith}
use Rattle.vm_rule.specs.{declared.view.Did.Did, declared.view.Tie.Tie, declared.view.View.View}
use Rattle.vm_step.specs.{Alone.RunsAlone, Asides.KeepsNumbers}

module _ {X : Type 0} (p : ℕ) where
  -- the steps speak of page p alone: all other pages are as they were
  pub record LeavesRest (done : List Did) (v w : View X) : Type 0 where
    pub log : w.log ≡ v.log ++ done
    pub live : w.live ≡ v.live
    pub start : w.start ≡ v.start
    pub parts : (w.used ≡ v.used) × (w.fresh ≡ v.fresh)
    pub mine : w.mine ≡ v.mine
    pub seen : StartsWith w.seen v.seen
    pub releases : StartsWith w.releases v.releases
    pub ties : (more : List Tie) × (w.ties ≡ more ++ v.ties)
    pub group : (w.pending ≡ v.pending) × (w.owed ≡ v.owed) × (w.next ≡ v.next)
    pub numbers : KeepsNumbers v w
    pub seats : (q : ℕ) → q ≢ p → seat_of w q ≡ seat_of v q
    pub loads : (q : ℕ) → q ≢ p → loads_at w q ≡ loads_at v q
    pub held : (q : ℕ) → q ≢ p → held_at w q ≡ held_at v q
    pub drafts : (q : ℕ) → q ≢ p → draft_of w q ≡ draft_of v q
    pub last : (q : ℕ) → q ≢ p → IsLocking (seat_of v q) → last_of w q ≡ last_of v q

-- page p is locked meanwhile
module _ {X : Type 0} (p : ℕ) where
  -- the pass's locks, drafts and open reads are as they were
  pub record Works (done : List Did) (v w : View X) : Type 0 where
    pub leaves : LeavesRest p done v w
    pub seat : seat_of w p ≡ seat_of v p
    pub loads : loads_at w p ≡ loads_at v p
    pub draft : draft_of w p ≡ draft_of v p
    pub last : IsLocking (seat_of v p) → last_of w p ≡ last_of v p
    pub alone : RunsAlone done [] v w
