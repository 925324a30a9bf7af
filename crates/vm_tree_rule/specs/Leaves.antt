-- What calls leave of a view that read pages of the tree optimistically: the pass holds what it held. The entries of
-- the pass stand beside it.
use Rattle.std.specs.Prelude.{◌++◌, ◌≡◌, ◌⊎◌, List, None, ℕ}
use Rattle.vm_rule.specs.Prelude.{Each, IsLocking, seat_of, StartsWith}
use Rattle.vm_rule.specs.declared.view.WordPlace.{WordPlace}
use Rattle.vm_rule.specs.declared.view.WordPlace.TheVariants as places
use Rattle.vm_step.specs.Prelude.{Did, HoldsPage, IsAlone, KeepsNumbers, KnowsAsBefore, KnowsElse, StaysAlone, Tie, View}
use Rattle.vm_kind.specs.from_vm_guard.Quiet.{IsUnmark}

-- the place is that of a page's state word
abbrev pub IsAnyState : WordPlace → Type 0
IsAnyState at = (q : ℕ) × (at ≡ places.State q)

-- the steps leave no word but where they take a mark away
abbrev pub OnlyClears : List Did → Type 0
OnlyClears done = Each (λ d. (d.wrote ≡ None) ⊎ IsUnmark d) done

module _ {X : Type 0} where
  -- the calls made these steps and no release; all of the view is as it was but open reads, ties, what the pass has
  -- seen of the two lists, and
  -- its entries
  pub record OnlyReads (v w : View X) : Type 0 where
    pub done : List Did
    pub log : w.log ≡ v.log ++ done
    pub clears : OnlyClears done
    pub live : w.live ≡ v.live
    pub start : w.start ≡ v.start
    pub parts : (w.used ≡ v.used) × (w.fresh ≡ v.fresh)
    pub seen : StartsWith w.seen v.seen
    pub releases : StartsWith w.releases v.releases
    pub frames : (w.frames ≡ v.frames) × (w.contents ≡ v.contents)
    pub out : w.out ≡ v.out
    pub notes : w.notes ≡ v.notes
    pub ties : (more : List Tie) × (w.ties ≡ more ++ v.ties)
    pub group : (w.pending ≡ v.pending) × (w.owed ≡ v.owed) × (w.next ≡ v.next)
    pub numbers : KeepsNumbers v w
    pub holds : (q : ℕ) → HoldsPage v w q
    pub knows : (q : ℕ) → IsLocking (seat_of v q) → KnowsAsBefore v w q
    pub alone : StaysAlone v w
    -- a pass that was alone knows all words of the table but state words as they were
    pub table : IsAlone v → KnowsElse IsAnyState v w

  -- these steps, which the pass made from v to w, left no word on the state word of page p
  pub record LeavesWord (p : ℕ) (v w : View X) : Type 0 where
    pub done : List Did
    pub log : w.log ≡ v.log ++ done
    pub none : Each (λ d. d.at ≡ places.State p → d.wrote ≡ None) done

  -- they said nothing
  abbrev pub ReadsOn : View X → View X → Type 0
  ReadsOn v w = OnlyReads v w × (w.mine ≡ v.mine)
