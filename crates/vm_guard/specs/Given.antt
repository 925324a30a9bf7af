-- Fresh pages, whether their numbers were free or they were claimed: what holds of them either way.
use Rattle.std.specs.Prelude.{[], ◌++◌, ◌<◌, ◌≡◌, ◌⊎◌, false, length, List, None, replicate, reverse, true, ℕ}
use Rattle.vm_event.specs.Prelude.{LOCKED, word_of}
use Rattle.vm_rule.specs.Prelude.{AreApart, contents_at, draft_of, Each, has, IsUnheld, last_of, seat_of, without_all}
use Rattle.vm_step.specs.Prelude.{AreHeld, Did, IsAlone, View}
use Rattle.vm_guard.specs.{declared.exclusive.ExclusiveGuard.ExclusiveGuard, Fresh.IsAmid, FreshPlaces.KnowsOthers}
use Rattle.vm_guard.specs.{FreshWords.TakesOnce, Sure.known_word}
use Rattle.vm_guard.specs.Groups.{GuardsHeld, pids_of}

module _ {X : Type 0} where
  -- these pages, n of them, were given: each was held by nobody of the pass, and has words of zeros
  pub record AreFreshPages (n : ℕ) (pages : List ℕ) (gs : List ExclusiveGuard) (before after : List ℕ) (v w : View X) : Type 0 where
    pub done : List Did
    pub amid : IsAmid pages done v w
    pub guards : pids_of gs ≡ pages
    pub count : length pages ≡ n
    pub apart : AreApart pages
    pub inside : (q : ℕ) → has q pages ≡ true → q < v.start.pages
    pub unheld : (q : ℕ) → has q pages ≡ true → IsUnheld v q
    pub seats : (q : ℕ) → has q pages ≡ true → seat_of w q ≡ record (seat_of v q) { exclusive = true; reading = None }
    pub held : GuardsHeld w gs
    pub zero : v.start.tells ≡ true → (q : ℕ) → has q pages ≡ true → (draft_of w q ≡ replicate v.start.size 0)
        × ((last_of w q).words ≡ replicate v.start.size 0)
    -- each is owed to the pass, or the pass holds its number; what it has of the numbers of all others is as it was
    pub usable : v.start.tells ≡ true → (q : ℕ) → has q pages ≡ true → (has q w.owed ≡ true) ⊎ (has q w.numbers ≡ true)
    pub owed : (q : ℕ) → has q pages ≡ false → has q w.owed ≡ has q v.owed
    pub numbers : v.start.tells ≡ true → ((q : ℕ) → has q pages ≡ false → has q w.numbers ≡ has q v.numbers) × (w.freed ≡ v.freed)
    pub taken : List ℕ
    pub cut : before ≡ after ++ reverse taken
    pub frames : w.frames ≡ without_all taken v.frames
    pub own : AreHeld after w
    -- the words of each other frame are as they were
    pub contents : (f : ℕ) → has f taken ≡ false → contents_at w f ≡ contents_at v f
    -- each page was locked once, and put into a frame once at most, where it is clean
    pub once : Each (λ g. TakesOnce g.pid g.version g.frame g.dirty done) gs
    -- no page was released; a pass that was alone knows each page locked at its guard's version, and all words but
    -- those of the call as they were
    pub silent : amid.own ≡ []
    pub locked : IsAlone v → Each (λ g. known_word g.pid w ≡ word_of LOCKED g.version) gs
    pub others : KnowsOthers pages v w
    pub current : w.current ≡ true
