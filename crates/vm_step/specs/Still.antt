-- A pass that has what it had, but for fresh parts and what it has seen of the two lists.
use Rattle.std.specs.Prelude.{◌≡◌, ℕ}
use Rattle.vm_rule.specs.{declared.view.View.View, Prelude.IsLocking, Prelude.last_of}
use Rattle.vm_rule.specs.{Prelude.seat_of, Prelude.StartsWith}

module _ {X : Type 0} where
  -- It has its numbers, entries, notes, frames, page numbers, locks, open reads and its group; its steps go on. Each
  -- page that it has locked has the last
  -- version that it had.
  pub record HasStill (v x : View X) : Type 0 where
    pub live : x.live ≡ v.live
    pub start : x.start ≡ v.start
    pub used : x.used ≡ v.used
    pub mine : x.mine ≡ v.mine
    pub notes : x.notes ≡ v.notes
    pub frames : (x.frames ≡ v.frames) × (x.contents ≡ v.contents)
    pub numbers : (x.numbers ≡ v.numbers) × (x.freed ≡ v.freed)
    pub locks : (x.seats ≡ v.seats) × (x.held ≡ v.held) × (x.drafts ≡ v.drafts) × (x.out ≡ v.out)
    pub reads : (x.loads ≡ v.loads) × (x.translations ≡ v.translations) × (x.ties ≡ v.ties)
    pub group : (x.pending ≡ v.pending) × (x.owed ≡ v.owed) × (x.next ≡ v.next)
    pub log : StartsWith x.log v.log
    pub kept : (p : ℕ) → IsLocking (seat_of v p) → last_of x p ≡ last_of v p
