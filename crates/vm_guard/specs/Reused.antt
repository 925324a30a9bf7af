-- Pages whose numbers were taken from a free-number word: what a call for fresh pages answers then. Each page given
-- has words of zeros, is held by the pass, which
-- has its number; on every other answer no lock is kept, the frames are as they were, and the numbers are given back,
-- but that of a page at its last version.
use Rattle.std.specs.Prelude.{[], ◌++◌, ◌<◌, ◌==◌, ◌||◌, ◌∷◌, ◌≡◌, ◌≢◌, ◌⊎◌, bit_or, bit_xor, length, List, None}
use Rattle.std.specs.Prelude.{replicate, reverse, true, false, ℕ}
use Rattle.vm_event.specs.Prelude.{AreLowest, LOCKED, word_of}
use Rattle.vm_rule.specs.Bundles.{frames_in}
use Rattle.vm_rule.specs.FreeNumbers.{TakeNumbersTold}
use Rattle.vm_rule.specs.Prelude.{AreApart, contents_at, did_change, did_exchange, draft_of, Each, has, IsLocking}
use Rattle.vm_rule.specs.Prelude.{IsUnheld, last_of, seat_of, without_all}
use Rattle.vm_rule.specs.declared.view.WordPlace.{WordPlace}
use Rattle.vm_step.specs.Prelude.{AreHeld, Did, HoldsPage, IsAlone, IsSaw, IsWorn, KeepsFrames, KeepsNumbers}
use Rattle.vm_step.specs.Prelude.{KnowsAsBefore, LeavesOnly, NoWord, UnlockedExpected, View, WritesNone}
use Rattle.vm_step.specs.declared.saw.At.{At}
use Rattle.vm_step.specs.declared.saw.Saw.{Saw}
use Rattle.vm_guard.specs.{declared.deny.Deny.Deny, declared.exclusive.ExclusiveGuard.ExclusiveGuard}
use Rattle.vm_guard.specs.{declared.given.Fresh.Fresh, Fresh.HasPagesFor, Fresh.IsAmid, Fresh.IsNextAnswer}
use Rattle.vm_guard.specs.{FreshPlaces.KnowsOthers, FreshWords.GivesUpOnce, FreshWords.TakesOnce, Spares.FindsAllFew}
use Rattle.vm_guard.specs.{Spares.FindsSome, Sure.known_next, Sure.known_word}
use Rattle.vm_guard.specs.Groups.{guards_of, GuardsHeld, pids_of}

-- the exchange that takes the numbers of the mask from word g, and the step that gives numbers
abbrev pub take_did : ℕ → ℕ → ℕ → Did
take_did g word mask = did_exchange (WordPlace.Spare g) word word (bit_xor word mask)

abbrev pub give_did : ℕ → ℕ → ℕ → Did
give_did g found mask = did_change (WordPlace.Spare g) found (bit_or found mask)

-- the numbers of the mask that are given back where the page of this bit could not be locked
abbrev pub numbers_due_of : Deny → ℕ → ℕ → ℕ
numbers_due_of (Deny.Worn p) bit mask = bit_xor mask bit
numbers_due_of d bit mask = mask

module _ {X : Type 0} where
  -- the numbers of the mask, n of them, were taken from word g: each page was held by nobody of the pass, and has words of zeros
  pub record AreReused (n g word mask : ℕ) (gs : List ExclusiveGuard) (before after : List ℕ) (v w : View X) : Type 0 where
    pub took : View X
    pub takes : TakeNumbersTold g word mask word v took
    pub done : List Did
    pub amid : IsAmid (frames_in g mask) done v w
    pub guards : pids_of gs ≡ frames_in g mask
    pub count : length (frames_in g mask) ≡ n
    pub apart : AreApart (frames_in g mask)
    pub inside : (q : ℕ) → has q (frames_in g mask) ≡ true → q < v.start.pages
    pub unheld : (q : ℕ) → has q (frames_in g mask) ≡ true → IsUnheld v q
    pub seats : (q : ℕ) → has q (frames_in g mask) ≡ true → seat_of w q ≡ record (seat_of v q) { exclusive = true; reading = None }
    pub held : GuardsHeld w gs
    pub zero : v.start.tells ≡ true → (q : ℕ) → has q (frames_in g mask) ≡ true
        → (draft_of w q ≡ replicate v.start.size 0) × ((last_of w q).words ≡ replicate v.start.size 0)
    pub numbers : v.start.tells ≡ true → (w.numbers ≡ frames_in g mask ++ v.numbers) × (w.freed ≡ v.freed)
    pub group : (w.owed ≡ v.owed) × (w.next ≡ v.next)
    pub taken : List ℕ
    pub cut : before ≡ after ++ reverse taken
    pub frames : w.frames ≡ without_all taken v.frames
    pub own : AreHeld after w
    -- the words of each other frame are as they were
    pub contents : (f : ℕ) → has f taken ≡ false → contents_at w f ≡ contents_at v f
    -- the first step took the numbers, and no other left a free-number word or a next word
    pub first : (more : List Did) × (done ≡ take_did g word mask ∷ more) × WritesNone (WordPlace.Spare g) more
    pub unmoved : WritesNone WordPlace.Next done
    -- each page was locked once, and put into a frame once at most, where it is clean
    pub once : Each (λ x. TakesOnce x.pid x.version x.frame x.dirty done) gs
    -- no page was released; a pass that was alone knows each page locked at its guard's version, the next word and all others as they were
    pub silent : amid.own ≡ []
    pub locked : IsAlone v → Each (λ x. known_word x.pid w ≡ word_of LOCKED x.version) gs
    pub same_next : IsAlone v → known_next w ≡ known_next v
    pub others : KnowsOthers (frames_in g mask) v w
    pub current : w.current ≡ true

  -- another pass took numbers of the word, or gave some, before the exchange, which is all that was done
  pub record IsLostTake (g word mask : ℕ) (saw : Saw) (v w : View X) : Type 0 where
    pub at : saw.at ≡ At.Free g
    pub first : saw.first ≡ word
    pub other : saw.seen ≢ word
    pub takes : TakeNumbersTold g word mask saw.seen v w

  -- the numbers of the mask were taken from word g; no lock was kept, and the frames are as they were
  pub record IsUnused (g word mask : ℕ) (done : List Did) (v w : View X) : Type 0 where
    pub amid : IsAmid (frames_in g mask) done v w
    pub keeps : KeepsFrames v w
    pub group : (w.owed ≡ v.owed) × (w.next ≡ v.next)
    pub holds : (q : ℕ) → HoldsPage v w q
    pub knows : (q : ℕ) → IsLocking (seat_of v q) → KnowsAsBefore v w q
    -- each page was locked once at most, and given up once then; no step left another next word, nor a word that is
    -- neither a state word nor this one
    pub once : (q : ℕ) → has q (frames_in g mask) ≡ true → GivesUpOnce q done
    pub unmoved : WritesNone WordPlace.Next done
    pub states : Each (λ d. (d.wrote ≡ None) ⊎ (((q : ℕ) × (d.at ≡ WordPlace.State q)) ⊎ (d.at ≡ WordPlace.Spare g))) done
    pub same_next : IsAlone v → known_next w ≡ known_next v
    pub others : KnowsOthers (frames_in g mask) v w
    pub current : w.current ≡ true

  -- a page whose number was taken could not be locked: all numbers that were taken were given back
  pub record IsToReuse (g word mask : ℕ) (saw : Saw) (v w : View X) : Type 0 where
    pub done : List Did
    pub unused : IsUnused g word mask done v w
    pub numbers : KeepsNumbers v w
    pub given : (found : ℕ) × LeavesOnly (WordPlace.Spare g) (take_did g word mask ∷ give_did g found mask ∷ []) done
    pub at : (p : ℕ) × (saw.at ≡ At.Page p) × (has p (frames_in g mask) ≡ true)
    pub saw_is : IsSaw NoWord UnlockedExpected done saw

  -- a page whose number was taken is at its last version: the pass holds its number, and gave back the others
  pub record IsWornNumber (g word mask p : ℕ) (v w : View X) : Type 0 where
    pub done : List Did
    pub unused : IsUnused g word mask done v w
    pub numbers : v.start.tells ≡ true → ((q : ℕ) → has q w.numbers ≡ ((q == p) || has q v.numbers)) × (w.freed ≡ v.freed)
    pub among : has p (frames_in g mask) ≡ true
    pub worn : IsWorn done p

  -- what a call answers once it has taken the numbers of the mask, n of them, from word g, with these frames before and after
  abbrev pub IsTakenAnswer : ℕ → ℕ → ℕ → ℕ → List ℕ → List ℕ → View X → View X → Fresh → Type 0
  IsTakenAnswer n g word mask before after v w (Fresh.Pages group) = AreReused n g word mask (guards_of group) before after v w
  IsTakenAnswer n g word mask before after v w (Fresh.Again saw) = (after ≡ before) × IsToReuse g word mask saw v w
  IsTakenAnswer n g word mask before after v w (Fresh.Worn p) = (after ≡ before) × IsWornNumber g word mask p v w
  IsTakenAnswer n g word mask before after v w (Fresh.Full pages next need) = ⊥

  -- and one that found n bits at least in word g: another pass may have been there first
  abbrev pub IsReuseAnswer : ℕ → ℕ → ℕ → List ℕ → List ℕ → View X → View X → Fresh → Type 0
  IsReuseAnswer n g word before after v w answer =
      (mask : ℕ) × AreLowest word n mask
      × (((saw : Saw) × (answer ≡ Fresh.Again saw) × (after ≡ before) × IsLostTake g word mask saw v w)
      ⊎ IsTakenAnswer n g word mask before after v w answer)

  -- What a call for n fresh pages answers. Where a free-number word has n bits at its load, the numbers of the n
  -- lowest bits of the first such word were taken;
  -- else n pages from the next one on were claimed. So too few pages are left just where no such word has n bits, and
  -- fewer are left from the next one on.
  abbrev pub IsFreshAnswer : ℕ → List ℕ → List ℕ → View X → View X → Fresh → Type 0
  IsFreshAnswer n before after v w answer =
      ((u : View X) × FindsAllFew n v u × IsNextAnswer n before after u w answer)
      ⊎ ((u : View X) × (g : ℕ) × (word : ℕ) × FindsSome n g word v u × IsReuseAnswer n g word before after u w answer)

  -- there is room for n pages: a free-number word has n bits, or so many are left from the next one on
  abbrev pub HasFreshRoom : ℕ → View X → View X → Type 0
  HasFreshRoom n v w =
      ((g : ℕ) × (word : ℕ) × FindsSome n g word v w) ⊎ ((u : View X) × (next : ℕ) × FindsAllFew n v u × HasPagesFor n next u w)
