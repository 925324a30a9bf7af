-- What a guard's release to a share leaves: the draft is the page's next version, and the pass has one share of the page.
use Rattle.std.specs.Prelude.{[], ◌++◌, ◌+◌, ◌∷◌, ◌≡◌, false, List, true, ℕ}
use Rattle.vm_event.specs.Prelude.{word_of}
use Rattle.vm_rule.specs.Prelude.{did_store, draft_of, held_at, last_of, loads_at, next_after, seat_of, without}
use Rattle.vm_rule.specs.Releases.{freed_by, numbers_left}
use Rattle.vm_rule.specs.declared.view.WordPlace.{WordPlace}
use Rattle.vm_step.specs.Prelude.{Did, View}
use Rattle.vm_guard.specs.{Guards.IsElsewhere, Guards.IsSharing, Sure.KnowsBut}

module _ {X : Type 0} where
  -- the page was released to one share of the pass, by one step: its draft is the next version, its mapping and fault word are as they were
  pub record IsDowngraded (p frame version : ℕ) (v w : View X) : Type 0 where
    pub done : List Did
    pub elsewhere : IsElsewhere p done (record { page = p; version = version + 1; words = draft_of v p } ∷ []) v w
    pub mine : w.mine ≡ v.mine
    pub group : (w.pending ≡ v.pending) × (w.owed ≡ without p v.owed) × (w.next ≡ next_after p v.next)
    pub numbers : (w.numbers ≡ numbers_left p v) × (w.freed ≡ freed_by v (p ∷ []) ++ v.freed)
    pub seat : seat_of w p ≡ record (seat_of v p) { shares = 1; exclusive = false }
    pub loads : loads_at w p ≡ loads_at v p
    pub sharing : IsSharing p frame w
    pub last : last_of w p ≡ record { version = version + 1; words = draft_of v p }
    -- the release was the only step of the call
    pub steps : done ≡ did_store (WordPlace.State p) (word_of 1 (version + 1)) ∷ []
    -- the mapping of the page and its fault word are as they were
    pub held : held_at w p ≡ held_at v p
    pub table : KnowsBut p (word_of 1 (version + 1)) v w
    pub current : w.current ≡ true
