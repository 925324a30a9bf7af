-- Frames that a pass holds or knows to be free, and what a call leaves that moves free frames alone.
use Rattle.std.specs.Prelude.{[], List, true, ℕ, ◌++◌, ◌<◌, ◌≡◌, ◌≢◌, ◌⊎◌}
use Rattle.vm_supply.specs.from_vm_rule.Prelude.{bundles_of, contents_at, Each, has, IsLocking, last_of, seat_of, StartsWith}
use Rattle.vm_supply.specs.from_vm_rule.declared_view_WordPlace.{WordPlace}
use Rattle.vm_supply.specs.from_vm_step.Prelude.{Did, IsAlone, KeepsNumbers, known_word_at, KnowsElse, Origin, RunsAlone, StaysAlone, View}

-- the place is a bundle's word
abbrev pub IsBundleOf : Origin → WordPlace → Type 0
IsBundleOf start (WordPlace.Bundle g) = g < bundles_of start.frames
IsBundleOf start at = ⊥

module _ {X : Type 0} where
  -- the interface has a frame, or some bundle has one, as the pass knows the table
  abbrev pub HasFree : List ℕ → View X → Type 0
  HasFree frames v = (frames ≢ []) ⊎ ((g : ℕ) × (g < bundles_of v.start.frames) × (known_word_at v (WordPlace.Bundle g) ≢ 0))

  -- the call made these steps, and left all of the view but its free frames
  pub record MovesFrames (done : List Did) (v w : View X) : Type 0 where
    pub log : w.log ≡ v.log ++ done
    pub live : w.live ≡ v.live
    pub start : w.start ≡ v.start
    pub parts : (w.used ≡ v.used) × (w.fresh ≡ v.fresh)
    pub pages : (w.seats ≡ v.seats) × (w.loads ≡ v.loads) × (w.held ≡ v.held) × (w.drafts ≡ v.drafts)
    pub reads : (w.translations ≡ v.translations) × (w.ties ≡ v.ties)
    pub out : w.out ≡ v.out
    pub notes : w.notes ≡ v.notes
    pub group : (w.pending ≡ v.pending) × (w.owed ≡ v.owed) × (w.next ≡ v.next)
    pub numbers : KeepsNumbers v w
    pub mine : w.mine ≡ v.mine
    pub seen : StartsWith w.seen v.seen
    pub releases : StartsWith w.releases v.releases
    pub last : (p : ℕ) → IsLocking (seat_of v p) → last_of w p ≡ last_of v p
    -- the words of a frame that the pass had and has are as they were
    pub contents : (f : ℕ) → has f v.frames ≡ true → has f w.frames ≡ true → contents_at w f ≡ contents_at v f
    pub alone : StaysAlone v w
    -- nothing was released; of a pass that is alone the steps made all that happened to the table's words
    pub runs : RunsAlone done [] v w
    -- each step is on a bundle's word
    pub steps : Each (λ d. IsBundleOf v.start d.at) done
    -- so a pass that was alone knows all words but the bundles' as before
    pub table : IsAlone v → KnowsElse (IsBundleOf v.start) v w
