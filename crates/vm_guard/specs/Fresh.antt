-- Pages that were never claimed: what a call for some of them answers. Each page given has words of zeros, is held by
-- the pass and owed to it; on
-- every other answer nothing is claimed, no lock is kept and the frames are as they were.
use Rattle.std.specs.Prelude.{[], ◌++◌, ◌+◌, ◌<◌, ◌∷◌, ◌≡◌, ◌≤◌, ◌⊎◌, Bool, false, length, List, None, Option}
use Rattle.std.specs.Prelude.{replicate, reverse, Some, true, ℕ}
use Rattle.vm_event.specs.Prelude.{LOCKED, MAX_VERSION, MayLock, version_of, word_of}
use Rattle.vm_rule.specs.Prelude.{contents_at, did_load, did_store, draft_of, Each, has, held_at, IsLocking, IsUnheld}
use Rattle.vm_rule.specs.Prelude.{last_of, loads_at, Mapping, next_after, NextTold, numbers, seat_of, StartsWith}
use Rattle.vm_rule.specs.Prelude.{without_all}
use Rattle.vm_page.specs.Pages.{all_zero}
use Rattle.vm_rule.specs.declared.view.WordPlace.{WordPlace}
use Rattle.vm_step.specs.Prelude.{AreHeld, Did, HasWritten, HoldsPage, IsAlone, IsSaw, IsToldOf, IsWorn, KeepsFrames}
use Rattle.vm_step.specs.Prelude.{KeepsNumbers, KnowsAsBefore, NoWord, Release, RunsAlone, StaysAlone, Tie}
use Rattle.vm_step.specs.Prelude.{UnlockedExpected, View, WritesNone}
use Rattle.vm_step.specs.declared.saw.At.{At}
use Rattle.vm_step.specs.declared.saw.Saw.{Saw}
use Rattle.vm_guard.specs.{declared.deny.Deny.Deny, declared.exclusive.ExclusiveGuard.ExclusiveGuard}
use Rattle.vm_guard.specs.{declared.given.Fresh.Fresh, Denied.AgainOrWorn, Denied.IsDenied, FreshPlaces.IsPlaceOf}
use Rattle.vm_guard.specs.{FreshPlaces.KnowsOthers, FreshWords.GivesUpOnce, FreshWords.IsNextWord}
use Rattle.vm_guard.specs.{FreshWords.PutsOnce, FreshWords.TakesOnce, Guards.IsHolding, LockSteps.LocksBy}
use Rattle.vm_guard.specs.{Quiet.LeavesNone}
use Rattle.vm_guard.specs.Groups.{guards_of, GuardsHeld, pids_of}
use Rattle.vm_guard.specs.Sure.{known_next, known_word, KnowsBut, KnowsStates}

-- the word to expect of a page that was seen so: it may be locked, at the version seen
pub record IsToSeize (word expects : ℕ) : Type 0 where
  pub may_lock : MayLock expects
  pub version : version_of word ≡ version_of expects

module _ {X : Type 0} where
  -- The call made these steps, says nothing, and worked on these pages alone: what the pass has and knows of all
  -- others is as it was. What it knows
  -- of frames, of pages owed and of the next page, the call's own clauses tell.
  pub record IsAmid (pages : List ℕ) (done : List Did) (v w : View X) : Type 0 where
    pub log : w.log ≡ v.log ++ done
    pub live : w.live ≡ v.live
    pub start : w.start ≡ v.start
    pub parts : (w.used ≡ v.used) × (w.fresh ≡ v.fresh)
    pub mine : w.mine ≡ v.mine
    pub seen : StartsWith w.seen v.seen
    pub releases : StartsWith w.releases v.releases
    pub out : w.out ≡ v.out
    pub notes : w.notes ≡ v.notes
    pub ties : (more : List Tie) × (w.ties ≡ more ++ v.ties)
    pub pending : w.pending ≡ v.pending
    pub seats : (q : ℕ) → has q pages ≡ false → seat_of w q ≡ seat_of v q
    pub loads : (q : ℕ) → has q pages ≡ false → loads_at w q ≡ loads_at v q
    pub knows : (q : ℕ) → has q pages ≡ false → IsLocking (seat_of v q) → KnowsAsBefore v w q
    pub alone : StaysAlone v w
    -- where the steps are; and that a pass that is alone knows the table: they made all that happened to its words, and to its releases
    pub places_are : Each (λ d. IsPlaceOf v.start pages d.at) done
    pub own : List Release
    pub runs : RunsAlone done own v w

  -- page p is held exclusively at this version, below the last, and stands so, or is not resident; its draft is its last words
  pub record IsSeized (p version : ℕ) (stands : Option Mapping) (v : View X) : Type 0 where
    pub page : p < v.start.pages
    pub below : version < MAX_VERSION
    pub owns : (seat_of v p).exclusive ≡ true
    pub mapping : (held_at v p).mapping ≡ stands
    pub inside : (m : Mapping) → stands ≡ Some m → m.frame < v.start.frames
    pub owned : (m : Mapping) → stands ≡ Some m → (held_at v p).owner ≡ p + 1
    pub told : IsToldOf v p
    pub at : (last_of v p).version ≡ version
    pub draft : draft_of v p ≡ (last_of v p).words
    pub size : length (last_of v p).words ≡ v.start.size
    pub device : v.start.tells ≡ true → stands ≡ None → (held_at v p).block.words ≡ (last_of v p).words
    pub free : has p v.pending ≡ false
    pub paid : has p v.owed ≡ false

  -- page p was locked
  pub record Seizes (p version : ℕ) (stands : Option Mapping) (v w : View X) : Type 0 where
    pub done : List Did
    pub amid : IsAmid (p ∷ []) done v w
    pub takes : LocksBy p version stands done
    pub keeps : KeepsFrames v w
    pub group : (w.owed ≡ v.owed) × (w.next ≡ v.next)
    pub numbers : KeepsNumbers v w
    pub unheld : IsUnheld v p
    pub seat : seat_of w p ≡ record (seat_of v p) { exclusive = true; reading = None }
    pub seized : IsSeized p version stands w
    -- a page whose number the pass has is one of zeros
    pub zero : v.start.tells ≡ true → has p v.numbers ≡ true → all_zero (last_of w p).words ≡ true
    -- no page was released; a pass that was alone knows the table as it was, but for the page's word
    pub silent : amid.own ≡ []
    pub table : KnowsBut p (word_of LOCKED version) v w

  -- page p could not be locked
  pub record IsNotSeized (p : ℕ) (deny : Deny) (v w : View X) : Type 0 where
    pub page : p < v.start.pages
    pub denied : IsDenied AgainOrWorn NoWord UnlockedExpected p deny v w
    pub places_are : Each (λ d. d.at ≡ WordPlace.State p) denied.done
    pub bare : LeavesNone denied.done

  -- the next page x was loaded, and then it was locked
  pub record IsBegun (x version : ℕ) (stands : Option Mapping) (v w : View X) : Type 0 where
    pub none : v.next ≡ None
    pub between : View X
    pub loaded : NextTold x v between
    pub seizes : Seizes x version stands between w

  -- and is given up again
  pub record GivesBack (p version : ℕ) (v w : View X) : Type 0 where
    pub done : List Did
    pub amid : IsAmid (p ∷ []) done v w
    pub left : ℕ
    pub next_word : IsNextWord version left
    pub steps : done ≡ did_store (WordPlace.State p) left ∷ []
    pub keeps : KeepsFrames v w
    pub group : (w.owed ≡ v.owed) × (w.next ≡ next_after p v.next)
    pub numbers : KeepsNumbers v w
    pub seat : seat_of w p ≡ record (seat_of v p) { exclusive = false }

  -- it was put into a frame of zeros, the last of these, where it stood in none
  pub record Furnishes (p frame version : ℕ) (dirty : Bool) (before after : List ℕ) (v w : View X) : Type 0 where
    pub done : List Did
    pub amid : IsAmid (p ∷ []) done v w
    pub group : (w.owed ≡ v.owed) × (w.next ≡ v.next)
    pub numbers : KeepsNumbers v w
    pub seat : seat_of w p ≡ seat_of v p
    pub holding : IsHolding p frame version dirty w
    pub draft : draft_of w p ≡ draft_of v p
    pub last : last_of w p ≡ last_of v p
    pub taken : List ℕ
    pub few : length taken ≤ 1
    pub cut : before ≡ after ++ reverse taken
    pub frames : w.frames ≡ without_all taken v.frames
    pub own : AreHeld after w
    -- the words of each other frame are as they were
    pub contents : (f : ℕ) → has f taken ≡ false → contents_at w f ≡ contents_at v f
    -- the state word was left alone; so was the translation word, or it names the frame, clean
    pub locks : WritesNone (WordPlace.State p) done
    pub puts : PutsOnce p frame dirty done
    -- so were the next word and the free-number words
    pub unmoved : WritesNone WordPlace.Next done
    pub spares : (g : ℕ) → WritesNone (WordPlace.Spare g) done
    -- no page was released; a pass that was alone knows the state words as they were
    pub silent : amid.own ≡ []
    pub states : KnowsStates v w

  -- these pages, those from x on, n of them, were claimed: each was held by nobody of the pass, and has words of zeros
  pub record AreFresh (pages : List ℕ) (x n : ℕ) (gs : List ExclusiveGuard) (before after : List ℕ) (v w : View X) : Type 0 where
    pub done : List Did
    pub amid : IsAmid pages done v w
    pub guards : pids_of gs ≡ pages
    pub inside : (v.start.next ≤ x) × (x + n ≤ v.start.pages)
    pub unheld : (q : ℕ) → has q pages ≡ true → IsUnheld v q
    pub seats : (q : ℕ) → has q pages ≡ true → seat_of w q ≡ record (seat_of v q) { exclusive = true; reading = None }
    pub held : GuardsHeld w gs
    pub zero : v.start.tells ≡ true → (q : ℕ) → has q pages ≡ true → (draft_of w q ≡ replicate v.start.size 0)
        × ((last_of w q).words ≡ replicate v.start.size 0)
    pub owed : w.owed ≡ pages ++ v.owed
    pub numbers : KeepsNumbers v w
    pub next : w.next ≡ None
    pub taken : List ℕ
    pub cut : before ≡ after ++ reverse taken
    pub frames : w.frames ≡ without_all taken v.frames
    pub own : AreHeld after w
    -- the words of each other frame are as they were
    pub contents : (f : ℕ) → has f taken ≡ false → contents_at w f ≡ contents_at v f
    -- the first step loaded the next page x, and a later one claimed
    pub loaded : (more : List Did) × (done ≡ did_load WordPlace.Next x ∷ more)
    pub claimed : HasWritten done WordPlace.Next (x + n)
    -- each page was locked once, and put into a frame once at most, where it is clean
    pub once : Each (λ g. TakesOnce g.pid g.version g.frame g.dirty done) gs
    -- no page was released; a pass that was alone knows each page locked at its guard's version, the next word, and all others as they were
    pub silent : amid.own ≡ []
    pub locked : IsAlone v → Each (λ g. known_word g.pid w ≡ word_of LOCKED g.version) gs
    pub moved : IsAlone v → known_next w ≡ x + n
    pub others : KnowsOthers pages v w
    pub current : w.current ≡ true

  -- the call claimed nothing, kept no lock, and left the frames as they were
  pub record IsNil (pages : List ℕ) (done : List Did) (v w : View X) : Type 0 where
    pub amid : IsAmid pages done v w
    pub keeps : KeepsFrames v w
    pub owed : w.owed ≡ v.owed
    pub numbers : KeepsNumbers v w
    pub holds : (q : ℕ) → HoldsPage v w q
    pub knows : (q : ℕ) → IsLocking (seat_of v q) → KnowsAsBefore v w q
    -- no step left another next word, nor a word that is no state word
    pub unmoved : Each (λ d. d.at ≡ WordPlace.Next → d.wrote ≡ None) done
    pub states : Each (λ d. (d.wrote ≡ None) ⊎ ((q : ℕ) × (d.at ≡ WordPlace.State q))) done

  -- its first step loaded the next page x; it locked each of these pages once at most, and gave it up once then; and
  -- it knows the next page at most
  -- where the pass held it before
  pub record IsSpared (pages : List ℕ) (x : ℕ) (done : List Did) (v w : View X) : Type 0 where
    pub nil : IsNil pages done v w
    pub loaded : (more : List Did) × (done ≡ did_load WordPlace.Next x ∷ more)
    pub once : (q : ℕ) → has q pages ≡ true → GivesUpOnce q done
    pub next : (q : ℕ) → w.next ≡ Some q → (seat_of v q).exclusive ≡ true
    -- a pass that was alone knows the next word, and all words but those of these pages, as they were
    pub same_next : IsAlone v → known_next w ≡ known_next v
    pub others : KnowsOthers pages v w
    pub current : w.current ≡ true

  -- a page that was to be given could not be locked, or the next word was another one at the second load
  pub record IsToTry (pages : List ℕ) (x n : ℕ) (saw : Saw) (v w : View X) : Type 0 where
    pub inside : x + n ≤ v.start.pages
    pub done : List Did
    pub spared : IsSpared pages x done v w
    pub at : (saw.at ≡ At.Next) ⊎ ((p : ℕ) × (saw.at ≡ At.Page p) × (has p pages ≡ true))
    pub saw_is : IsSaw NoWord UnlockedExpected done saw

  -- a page that was to be given is at the last version
  pub record IsWornOut (pages : List ℕ) (x n p : ℕ) (v w : View X) : Type 0 where
    pub inside : x + n ≤ v.start.pages
    pub among : has p pages ≡ true
    pub done : List Did
    pub spared : IsSpared pages x done v w
    pub worn : IsWorn done p

  -- the only step of the call loaded the next page, x, and n pages are left from it on
  pub record HasPagesFor (n x : ℕ) (v w : View X) : Type 0 where
    pub loaded : NextTold x v w
    pub room : x + n ≤ v.start.pages

  -- or too few: that load is all that was done
  pub record IsFull (n pages next need : ℕ) (v w : View X) : Type 0 where
    pub asked : need ≡ n
    pub there : pages ≡ v.start.pages
    pub full : pages < next + need
    pub loaded : NextTold next v w

  -- what a claim of n pages from the next one on answers, with these frames before and after
  abbrev pub IsNextAnswer : ℕ → List ℕ → List ℕ → View X → View X → Fresh → Type 0
  IsNextAnswer n before after v w (Fresh.Pages group) = (x : ℕ) × AreFresh (numbers x n) x n (guards_of group) before after v w
  IsNextAnswer n before after v w (Fresh.Again saw) = (after ≡ before) × ((x : ℕ) × IsToTry (numbers x n) x n saw v w)
  IsNextAnswer n before after v w (Fresh.Worn p) = (after ≡ before) × ((x : ℕ) × IsWornOut (numbers x n) x n p v w)
  IsNextAnswer n before after v w (Fresh.Full pages next need) = (after ≡ before) × IsFull n pages next need v w

-- pages were given
abbrev pub IsPages : Fresh → Type 0
IsPages (Fresh.Pages group) = Unit {0}
IsPages f = ⊥

-- pages were given, or one is worn
abbrev pub IsPagesOrWorn : Fresh → Type 0
IsPagesOrWorn (Fresh.Pages group) = Unit {0}
IsPagesOrWorn (Fresh.Worn p) = Unit {0}
IsPagesOrWorn f = ⊥

-- fewer pages were left
abbrev pub IsFullAnswer : Fresh → Type 0
IsFullAnswer (Fresh.Full pages next need) = Unit {0}
IsFullAnswer f = ⊥
