-- What the steps of a call that works on the pages of a group leave of all other pages, and of what the pass says.
use Rattle.std.specs.Prelude.{◌++◌, ◌≡◌, List, ℕ}
use Rattle.vm_rule.specs.Prelude.{draft_of, held_at, IsLocking, last_of, loads_at, seat_of, StartsWith}
use Rattle.vm_step.specs.Prelude.{Did, KeepsNumbers, Tie, View}
use Rattle.vm_group_guard.specs.Group.{IsUnder}

module _ {X : Type 0} where
  -- the steps speak of the group's pages alone: all other pages are as they were
  pub record LeavesGroup (h size : ℕ) (done : List Did) (v w : View X) : Type 0 where
    pub log : w.log ≡ v.log ++ done
    pub live : w.live ≡ v.live
    pub start : w.start ≡ v.start
    pub parts : (w.used ≡ v.used) × (w.fresh ≡ v.fresh)
    pub mine : w.mine ≡ v.mine
    pub seen : StartsWith w.seen v.seen
    pub releases : StartsWith w.releases v.releases
    pub ties : (more : List Tie) × (w.ties ≡ more ++ v.ties)
    pub group : (w.pending ≡ v.pending) × (w.owed ≡ v.owed) × (w.next ≡ v.next)
    pub numbers : KeepsNumbers v w
    pub seats : (q : ℕ) → (IsUnder h size q → ⊥) → seat_of w q ≡ seat_of v q
    pub loads : (q : ℕ) → (IsUnder h size q → ⊥) → loads_at w q ≡ loads_at v q
    pub held : (q : ℕ) → (IsUnder h size q → ⊥) → held_at w q ≡ held_at v q
    pub drafts : (q : ℕ) → (IsUnder h size q → ⊥) → draft_of w q ≡ draft_of v q
    pub last : (q : ℕ) → (IsUnder h size q → ⊥) → IsLocking (seat_of v q) → last_of w q ≡ last_of v q

  -- the pass's locks and drafts of this page are as they were, and its last words
  pub record PageStays (q : ℕ) (v w : View X) : Type 0 where
    pub seat : seat_of w q ≡ seat_of v q
    pub draft : draft_of w q ≡ draft_of v q
    pub last : IsLocking (seat_of v q) → last_of w q ≡ last_of v q
