-- Groups of guards: pages whose drafts become their last words at one point, the first release of the group.
use Rattle.std.specs.Prelude.{[], ◌&&◌, ◌++◌, ◌+◌, ◌<◌, ◌∷◌, ◌≡◌, ◌≤◌, ◌⊎◌, false, if◌then◌else◌, IsSome, List, None, Option, true, ℕ}
use Rattle.vm_event.specs.Prelude.{MAX_VERSION, version_of}
use Rattle.vm_rule.specs.Prelude.{AreApart, AreUnchanged, began_of, Change, changes_of, did_store, draft_of, Each}
use Rattle.vm_rule.specs.Prelude.{entries_of, Entry, has, held_at, IsLocking, Kept, last_of, loads_at, next_after}
use Rattle.vm_rule.specs.Prelude.{ReleaseTold, seat_of, Start, without_all}
use Rattle.vm_page.specs.Pages.{all_zero}
use Rattle.vm_rule.specs.Releases.{freed_by}
use Rattle.vm_rule.specs.declared.view.WordPlace.{WordPlace}
use Rattle.vm_step.specs.Prelude.{Did, HoldsPage, IsAlone, IsClaimed, IsKeptNow, IsNotOut, IsToldOf, KnowsAsBefore}
use Rattle.vm_step.specs.Prelude.{ReadsAsBefore, Release, View}
use Rattle.vm_guard.specs.{declared.exclusive.ExclusiveGuard.ExclusiveGuard, declared.group.Group.Group, Guards.IsHolding, Quiet.IsSteady}
use Rattle.vm_guard.specs.Sure.{IsKnownFree, known_word, words_with}

-- the guards of a group, in the order in which they were added
abbrev pub guards_of : Group → List ExclusiveGuard
guards_of Group.Empty = []
guards_of (Group.One a) = a ∷ []
guards_of (Group.Two a b) = a ∷ b ∷ []
guards_of (Group.Three a b c) = a ∷ b ∷ c ∷ []
guards_of (Group.Four a b c d) = a ∷ b ∷ c ∷ d ∷ []

-- their pages
abbrev pub pids_of : List ExclusiveGuard → List ℕ
pids_of [] = []
pids_of (g ∷ gs) = g.pid ∷ pids_of gs

-- the page of the last of them
abbrev pub last_pid : ExclusiveGuard → List ExclusiveGuard → ℕ
last_pid g [] = g.pid
last_pid g (h ∷ hs) = last_pid h hs

-- the steps that release them
abbrev pub release_steps : List ExclusiveGuard → List Did
release_steps [] = []
release_steps (g ∷ gs) = did_store (WordPlace.State g.pid) (g.version + 1) ∷ release_steps gs

-- the state words that they leave
abbrev pub released_words : List ExclusiveGuard → List (WordPlace × ℕ)
released_words [] = []
released_words (g ∷ gs) = (WordPlace.State g.pid, g.version + 1) ∷ released_words gs

-- the loaded next word is no more known once one of these pages is given up
abbrev pub next_after_all : List ℕ → Option ℕ → Option ℕ
next_after_all [] o = o
next_after_all (p ∷ ps) o = next_after_all ps (next_after p o)

module _ {X : Type 0} where
  -- their versions afterwards: each page's draft, at its next version
  abbrev pub releases_of : View X → List ExclusiveGuard → List Release
  releases_of v [] = []
  releases_of v (g ∷ gs) = record { page = g.pid; version = g.version + 1; words = draft_of v g.pid } ∷ releases_of v gs

  -- the pass holds the page of each guard
  abbrev pub GuardsHeld : View X → List ExclusiveGuard → Type 0
  GuardsHeld v gs = Each (λ g. IsHolding g.pid g.frame g.version g.dirty v) gs

  -- the pass may release these pages together: it holds each, another page each, with its block at home and claimed
  -- as far as it can know; and
  -- nothing is said, no word changes and no page is owed, or the layer above lets the changes be made
  pub record MayReleaseAll (may_release : Start → List ℕ → List Change → List (Entry X) → Type 0)
      (gs : List ExclusiveGuard) (said : Option X) (v : View X) : Type 0 where
    pub held : GuardsHeld v gs
    pub apart : AreApart (pids_of gs)
    pub home : Each (λ g. IsNotOut v g.pid) gs
    pub claimed : v.start.tells ≡ true → Each (λ g. IsClaimed v g.pid) gs
    pub owner : v.start.tells ≡ true → ((said ≡ None) × AreUnchanged v.owed (changes_of v (pids_of gs)))
        ⊎ may_release (began_of v.start) v.owed (changes_of v (pids_of gs)) (entries_of v said)

  -- page p is a member of a group that was released in part, and is still to be released, at this version
  pub record IsDue (p version : ℕ) (v : View X) : Type 0 where
    pub page : p < v.start.pages
    pub below : version < MAX_VERSION
    pub owns : (seat_of v p).exclusive ≡ true
    pub resident : IsSome (held_at v p).mapping
    pub owned : (held_at v p).owner ≡ p + 1
    pub told : IsToldOf v p
    pub home : IsNotOut v p
    pub at : version ≡ (last_of v p).version
    pub pending : has p v.pending ≡ true

  -- the members were released one after another
  abbrev pub AreGivenUp : List ExclusiveGuard → View X → View X → Type 0
  AreGivenUp [] v w = v ≡ w
  AreGivenUp (g ∷ gs) v w = (u : View X) × ReleaseTold g.pid g.version [] None v u × AreGivenUp gs u w

  -- the call made these steps and these releases, and all but these pages is as it was
  pub record IsBeside (pages : List ℕ) (done : List Did) (own : List Release) (v w : View X) : Type 0 where
    pub steady : IsSteady done own v w
    pub holds : (q : ℕ) → has q pages ≡ false → HoldsPage v w q
    pub knows : (q : ℕ) → has q pages ≡ false → IsLocking (seat_of v q) → KnowsAsBefore v w q
    pub others : (q : ℕ) → has q pages ≡ false → ReadsAsBefore v w q

  -- A group was released. At its first release, which left the view `point`, all drafts became logical, and what is
  -- said became an entry, under
  -- the condition of the layer above; the others were released one by one. Each page's draft is its next version.
  pub record AreReleased (first : ExclusiveGuard) (rest : List ExclusiveGuard) (said : Option X) (v w : View X) : Type 0 where
    pub point : View X
    pub told : ReleaseTold first.pid first.version (pids_of rest) said v point
    pub later : AreGivenUp rest point w
    pub beside : IsBeside (pids_of (first ∷ rest)) (release_steps (first ∷ rest)) (releases_of v (first ∷ rest)) v w
    pub mine : w.mine ≡ v.mine ++ entries_of v said
    pub entry : (others more : List (Entry X)) × (w.seen ≡ ((v.seen ++ others) ++ entries_of v said) ++ more)
    pub group : (w.pending ≡ v.pending) × (w.owed ≡ without_all (pids_of (first ∷ rest)) v.owed)
        × (w.next ≡ next_after_all (pids_of (first ∷ rest)) v.next)
    -- The pass holds the numbers that it held, but those of these pages whose words are not all 0; where the blocks
    -- do not tell their words, of none of these
    -- pages. It has still to give those of the pages that the group frees: their words were not all 0, and are now.
    pub numbers : (q : ℕ) → has q
        w.numbers ≡ (if has q (pids_of (first ∷ rest)) then (v.start.tells && all_zero (draft_of v q)) && has q
        v.numbers else has q v.numbers)
    pub freed : w.freed ≡ freed_by v (pids_of (first ∷ rest)) ++ v.freed
    pub seats : (q : ℕ) → has q (pids_of (first ∷ rest)) ≡ true → seat_of w q ≡ record (seat_of v q) { exclusive = false }
    pub loads : (q : ℕ) → loads_at w q ≡ loads_at v q
    pub current : w.current ≡ true
    -- a pass that was alone knows the words of the table as they were, but for those of these pages, each of which is
    -- free, at no later version
    pub table : IsAlone v → w.snapshot.words ≡ words_with v.start (released_words (first ∷ rest)) v.snapshot.words
    pub free : IsAlone v → Each (λ g. IsKnownFree g.pid w × (version_of (known_word g.pid w) ≤ g.version + 1)) (first ∷ rest)
    -- it finds each page's draft as the last words of the page, and the last words of each other page as they were
    pub last : IsAlone v → Each (λ g. last_of w g.pid ≡ record { version = g.version + 1; words = draft_of v g.pid }) (first ∷ rest)
    pub alone : IsAlone v → (q : ℕ) → has q (pids_of (first ∷ rest)) ≡ false → (last_of w q).words ≡ (last_of v q).words

  -- the same, of the list of all guards; and what the layer above keeps at the first release, and at the last one
  abbrev pub IsGroupReleased : (Start → Kept X → Type 0) → List ExclusiveGuard → Option X → View X → View X → Type 0
  IsGroupReleased keeps [] said v w = v ≡ w
  IsGroupReleased keeps (g ∷ gs) said v w =
      (r : AreReleased g gs said v w) × (v.start.tells ≡ true → IsKeptNow keeps g.pid (Unit {0}) r.point)
      × (v.start.tells ≡ true → IsKeptNow keeps (last_pid g gs) (Unit {0}) w)
