-- The invariant of the core: what holds between any two events. Page by page: the state word tells the locks; a page that is neither locked
-- nor evicted is resident; its words stand in its frame, and where it is clean or evicted in its block too; the fault word is the block's
-- count where nobody may call the device; an open read at the page's version has read the page's frame. Over the frames: each stands in one
-- place, and its owner word names no page but the one in it, and names that one where it is not locked. Over the words: each frame, block,
-- version and draft has as many as a page.
use Rattle.std.specs.List.{AllByRecursion}
use Rattle.std.specs.Prelude.{[], ◌+◌, ◌<◌, ◌==◌, ◌∷◌, ◌≡◌, ◌≢◌, ◌≤◌, Bool, false, if◌then◌else◌, IsSome, length}
use Rattle.std.specs.Prelude.{List, nat_lt, None, Option, slice_index, Some, true, ℕ}
use Rattle.vm_event.specs.{declared.event.Event.Event, declared.event.Mapping.Mapping, declared.event.Open.Open, declared.event.Seat.Seat}
use Rattle.vm_event.specs.{Fn.sum_below, FrameActs.stands_in, State.Page, State.State, Step.IsOwned, Step.Legal}
use Rattle.vm_event.specs.History.{History, World, world_after}
use Rattle.vm_event.specs.Words.{EVICTED, has_free_bit, LOCKED, MAX_VERSION}

-- how many shares a state says there are
abbrev pub share_count : ℕ → ℕ
share_count state = if nat_lt state LOCKED then state else 0

-- ---- one page

-- the version that an open read is at
abbrev pub read_version : Option Open → Option ℕ
read_version None = None
read_version (Some o) = Some o.version

-- one actor holds the page exclusively, and no other
pub record OneHolder (actors : ℕ) (seats : ℕ → Seat) : Type 0 where
  pub holder : ℕ
  pub named : holder < actors
  pub owns : (seats holder).exclusive ≡ true
  pub only : (b : ℕ) → (seats b).exclusive ≡ true → b ≡ holder

-- the state word tells the locks: a state below Locked is the number of shares, a locked page has one holder and no share, and can still
-- be released at a next version; any other has no holder; a page is under write-back by at most one actor, which has a share of it
pub record LocksInv (actors state version : ℕ) (seats : ℕ → Seat) : Type 0 where
  pub known : state ≤ EVICTED
  pub in_range : version ≤ MAX_VERSION
  pub shares : sum_below actors (λ a. (seats a).shares) ≡ share_count state
  pub unheld : state ≢ LOCKED → (a : ℕ) → (seats a).exclusive ≡ false
  pub held : state ≡ LOCKED → OneHolder actors seats
  pub below : state ≡ LOCKED → version < MAX_VERSION
  pub writer : (a : ℕ) → (seats a).writing ≡ true → (1 ≤ (seats a).shares) × (a < actors)
  pub one_writer : (a b : ℕ) → (seats a).writing ≡ true → (seats b).writing ≡ true → a ≡ b

-- the page is at its last version; it is resident where it is neither locked nor evicted, and not where it is evicted
pub record StandsInv (state version : ℕ) (trans : Option Mapping) (h : History) : Type 0 where
  pub last : h.last.version ≡ version
  pub resident : state ≢ LOCKED → state ≢ EVICTED → IsSome trans
  pub evicted : state ≡ EVICTED → trans ≡ None

-- each version of the page has so many words, and so has the draft of a locked one
pub record SizesInv (size state : ℕ) (h : History) : Type 0 where
  pub older : AllByRecursion (λ v. length v.words ≡ size) h.older
  pub last : length h.last.words ≡ size
  pub draft : state ≡ LOCKED → length h.draft ≡ size

-- where the page's words stand: a clean page has its block's words in its frame; a page that is not locked has its last version there, a
-- locked one its draft; a locked page without a frame, or clean, has its last version in its draft and in its block; so has an evicted
-- one in its block
pub record WordsInv (long : ℕ) (words : ℕ → List ℕ) (state : ℕ) (trans : Option Mapping) (block : List ℕ) (h : History) : Type 0 where
  pub clean : (m : Mapping) → trans ≡ Some m → m.dirty ≡ false → words m.frame ≡ block
  pub logical : state ≢ LOCKED → (m : Mapping) → trans ≡ Some m → words m.frame ≡ h.last.words
  pub draft : state ≡ LOCKED → (m : Mapping) → trans ≡ Some m → words m.frame ≡ h.draft
  pub unwritten : state ≡ LOCKED → ((m : Mapping) → trans ≡ Some m → m.dirty ≡ false) → (h.draft ≡ h.last.words) × (block ≡ h.last.words)
  pub device : state ≡ EVICTED → block ≡ h.last.words
  pub size : length block ≡ long

-- the fault word is the block's count where nobody may call the device
abbrev pub FaultInv : ℕ → ℕ → ℕ → (ℕ → Seat) → Type 0
FaultInv state fault count seats = state ≢ LOCKED → ((a : ℕ) → (seats a).writing ≡ false) → fault ≡ count

-- the loaded words stand at their places
abbrev pub LoadsAre : List ℕ → List (ℕ × ℕ) → Type 0
LoadsAre words [] = Unit {0}
LoadsAre words (l ∷ ls) = (slice_index words l.0 ≡ l.1) × LoadsAre words ls

-- its frame is the page's, and its loads are that frame's words
pub record ReadsPage (words : ℕ → List ℕ) (trans : Option Mapping) (o : Open) (loads : List (ℕ × ℕ)) : Type 0 where
  pub at_frame : (f : ℕ) → o.frame ≡ Some f → (m : Mapping) → trans ≡ Some m → f ≡ m.frame
  pub loaded : (m : Mapping) → trans ≡ Some m → LoadsAre (words m.frame) loads

-- an open read is at the page's version or an earlier one, and at an earlier one of an evicted page; at the version of a page that is
-- neither locked nor evicted, it has read the page's frame
pub record ReadInv (words : ℕ → List ℕ) (state version : ℕ) (trans : Option Mapping) (reading : Option Open)
    (loads : List (ℕ × ℕ)) : Type 0 where
  pub old : (o : Open) → reading ≡ Some o → o.version ≤ version
  pub evicted : state ≡ EVICTED → (o : Open) → reading ≡ Some o → o.version < version
  pub current : state ≢ LOCKED → state ≢ EVICTED → (o : Open) → reading ≡ Some o → o.version ≡ version → ReadsPage words trans o loads

-- what holds of one page; what is said of words holds where the blocks tell them
pub record PageInv (actors size : ℕ) (tells : Bool) (words : ℕ → List ℕ) (r : Page) (h : History) (loads : ℕ → List (ℕ × ℕ)) : Type 0 where
  pub locks : LocksInv actors r.state r.version r.seats
  pub stands : StandsInv r.state r.version r.trans h
  pub sizes : SizesInv size r.state h
  pub contents : tells ≡ true → WordsInv size words r.state r.trans r.block h
  pub faults : FaultInv r.state r.fault r.count r.seats
  pub reads : (a : ℕ) → ReadInv words r.state r.version r.trans (r.seats a).reading (loads a)

-- ---- frames

-- where a frame is
pub data FramePlace : Type 0 where
  Nowhere : FramePlace
  Free : FramePlace
  Held : (a : ℕ) → FramePlace
  Mapped : (p : ℕ) → FramePlace

abbrev pub at_free : FramePlace → Bool
at_free Free = true
at_free Nowhere = false
at_free (Held a) = false
at_free (Mapped p) = false

abbrev pub at_actor : FramePlace → ℕ → Bool
at_actor (Held b) a = a == b
at_actor Nowhere a = false
at_actor Free a = false
at_actor (Mapped p) a = false

abbrev pub at_page : FramePlace → ℕ → Bool
at_page (Mapped q) p = p == q
at_page Nowhere p = false
at_page Free p = false
at_page (Held a) p = false

-- the place names an actor or a page of the core, and is not nowhere
abbrev pub IsFramePlace : ℕ → ℕ → FramePlace → Type 0
IsFramePlace actors pages Nowhere = ⊥
IsFramePlace actors pages Free = Unit {0}
IsFramePlace actors pages (Held a) = a < actors
IsFramePlace actors pages (Mapped p) = p < pages

-- frame f stands in one place: its set bit, an actor's held frames, or a page's translation
pub record FrameInv (actors pages frames f : ℕ) (bit : Bool) (holders standers : ℕ → Bool) (x : FramePlace) : Type 0 where
  pub inside : f < frames → IsFramePlace actors pages x
  pub outside : frames ≤ f → x ≡ Nowhere
  pub free : bit ≡ at_free x
  pub holds : (a : ℕ) → holders a ≡ at_actor x a
  pub mapped : (p : ℕ) → standers p ≡ at_page x p

-- what holds of frame f of the core, at this place
abbrev pub FrameIsAt : State → ℕ → FramePlace → Type 0
FrameIsAt c f x =
    FrameInv c.shape.actors c.shape.pages c.shape.frames f (has_free_bit c.bundles f) (λ a. c.held a f)
    (λ p. stands_in (c.pages p).trans f) x

-- ---- owner words

-- a page of which h is the head stands in frame f
pub record StandsUnder (c : State) (h f : ℕ) : Type 0 where
  pub page : ℕ
  pub under : c.head page ≡ h
  pub stands : stands_in (c.pages page).trans f ≡ true

-- an owner word that names a head is that of a frame of one of its pages; and each page that stands in a frame and is not locked has its
-- head named by its frame's word
pub record OwnersInv (c : State) : Type 0 where
  pub named : (f h : ℕ) → c.owners f ≡ h + 1 → StandsUnder c h f
  pub owned : (p : ℕ) → (c.pages p).state ≢ LOCKED → IsOwned c p (c.head p + 1)

-- ---- groups

-- the same locks, and an open read at the same version
pub record IsSameSeat (s t : Seat) : Type 0 where
  pub shares : s.shares ≡ t.shares
  pub exclusive : s.exclusive ≡ t.exclusive
  pub writing : s.writing ≡ t.writing
  pub reading : read_version s.reading ≡ read_version t.reading

-- the state, the version and the locks of a page are those of its head
pub record IsMirror (r head : Page) : Type 0 where
  pub state : r.state ≡ head.state
  pub version : r.version ≡ head.version
  pub seats : (a : ℕ) → IsSameSeat (r.seats a) (head.seats a)

-- a head is its own, and each page stands under its head's word
pub record HeadsInv (c : State) : Type 0 where
  pub heads : (p : ℕ) → c.head (c.head p) ≡ c.head p
  pub mirrors : (p : ℕ) → IsMirror (c.pages p) (c.pages (c.head p))

-- the invariant: each frame stands in one place and has a page's words, the next word is no more than the pages, each page is in order,
-- and so are the owner words and the groups
pub record Inv (w : World) : Type 0 where
  pub place : ℕ → FramePlace
  pub frames : (f : ℕ) → FrameIsAt w.core f (place f)
  pub words : (f : ℕ) → length (w.core.words f) ≡ w.core.size
  pub next : w.core.next ≤ w.core.shape.pages
  pub pages : (p : ℕ) → PageInv w.core.shape.actors w.core.size w.core.tells w.core.words (w.core.pages p) (w.histories p) (w.loads p)
  pub owners : OwnersInv w.core
  pub heads : HeadsInv w.core

-- where the event is legal, it keeps the invariant
abbrev pub Keeps : World → Event → Type 0
Keeps w e = Inv w → Legal w.core e → Inv (world_after w e)
