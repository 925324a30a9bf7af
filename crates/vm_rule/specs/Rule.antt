-- The rule of the running table: what holds of its words, its blocks and the views of its passes between any two
-- steps of any threads.
use Rattle.std.specs.Prelude.{[], ◌++◌, ◌+◌, ◌<◌, ◌∷◌, ◌≡◌, ◌≢◌, ◌≤◌, ◌⊎◌, Bool, false, if◌then◌else◌, IsSome, length}
use Rattle.std.specs.Prelude.{List, None, Option, replicate, Some, true, ℕ}
use mathlib.Core.Option as maybe
use Rattle.atomic_table.specs.Table.{State as Table}
use Rattle.vm_block.specs.declared.stored.Stored.{Stored}
use Rattle.vm_event.specs.Prelude.{at, EVICTED, frame_of, get_elem?, has_free_bit, History, Inv, is_readable, LOCKED}
use Rattle.vm_event.specs.Prelude.{mapping_of, MAX_COUNT, Page, state_of, trans_word, version_of, World}
use Rattle.vm_event.specs.declared.event.{Mapping.Mapping, Seat.Seat}
use Rattle.vm_laws_others.specs.Leaves.{stands_dirty}
use Rattle.vm_numbers.specs.Hands.{Hands, NumbersFit}
use Rattle.std.specs.Prelude.{map}
use Rattle.vm_owner.specs.{declared.Entry.Entry, Kept.AreCounted, Kept.Kept, Kept.Start, Numbers.has}
use Rattle.vm_rule.specs.{declared.view.Did.Did, declared.view.Held.Held, declared.view.Origin.Origin}
use Rattle.vm_rule.specs.{declared.view.Out.Out, declared.view.Release.Release, declared.view.Snapshot.Snapshot}
use Rattle.vm_rule.specs.{declared.view.Tie.Tie, declared.view.Translation.Translation, declared.view.View.View}
use Rattle.vm_rule.specs.{Layout.at_next, Layout.at_state, Layout.table_words, Layout.width, Puts.chosen, Puts.listed}
use Rattle.vm_rule.specs.{Puts.put_at}
use Rattle.vm_rule.specs.Reading.{block_of, core_shown, histories_of, home, last_in}
use Rattle.vm_rule.specs.Reading.{last_of, no_block, out_of, world_of}
use Rattle.vm_rule.specs.Views.{any, draft_of, Each, entries_by, Hears, IsLocking, IsWhole, may_call, one_part, owns}
use Rattle.vm_rule.specs.Views.{PARTS, seat_of, spent, StartsWith, times_noted, total}

-- the slot of a block that is out: empty at home, or with the pass that moves it
abbrev pub slot_of : {B : Type 0} → Out → maybe.Option (Option B)
slot_of o = if o.moving then maybe.none else maybe.some None

-- each release has the version after its page's last one
abbrev pub AreNext : Origin → List Release → List Release → Type 0
AreNext start before [] = Unit {0}
AreNext start before (r ∷ rs) = (r.version ≡ (last_in start before r.page).version + 1) × AreNext start (before ++ r ∷ []) rs

-- ---- what a pass knows of pages

-- a page that nobody has locked
abbrev pub no_held : Held
no_held = record { mapping = None; fault = 0; block = no_block; owner = 0 }

-- what a pass that has the page locked knows of it is what it is: all of it where the pass may call the device, its
-- frame where it has a share
pub record KnowsPage (seat : Seat) (h : Held) (r : Page) : Type 0 where
  pub calls : may_call seat ≡ true → (h.mapping ≡ r.trans) × (h.fault ≡ r.fault) × (h.block.words ≡ r.block) × (h.block.count ≡ r.count)
  pub shares : 1 ≤ seat.shares → frame_of h.mapping ≡ frame_of r.trans

-- of a page whose device the pass may call, and that stands in a frame, it knows the frame's owner word; and so of
-- each page
abbrev pub KnowsOwner : (ℕ → ℕ) → Seat → Held → Type 0
KnowsOwner owners seat h = (m : Mapping) → may_call seat ≡ true → h.mapping ≡ Some m → h.owner ≡ owners m.frame

abbrev pub KnowsOwners : (ℕ → ℕ) → (ℕ → Seat) → (ℕ → Held) → Type 0
KnowsOwners owners seats held = (p : ℕ) → KnowsOwner owners (seats p) (held p)

-- the word that was loaded names the page's frame, as long as the page has the version of the read and is neither
-- locked nor evicted; a page
-- that it says to be clean stays clean so long
abbrev pub TranslationHolds : (ℕ → Page) → Translation → Type 0
TranslationHolds pages t =
    (t.version ≤ (pages t.page).version)
    × (t.version ≡ (pages t.page).version → (pages t.page).state ≢ LOCKED → (pages t.page).state ≢ EVICTED
    → frame_of (mapping_of t.word) ≡ frame_of (pages t.page).trans)
    × (t.version ≡ (pages t.page).version → (pages t.page).state ≢ LOCKED → (pages t.page).state ≢ EVICTED
    → stands_dirty (pages t.page).trans ≡ true
    → stands_dirty (mapping_of t.word) ≡ true)

-- the word was the page's once: the page's version is no lower; where the word said that it can't be read, it can't
-- be at that version; and at that version it is evicted only where the word said so
abbrev pub WasWord : Page → Option ℕ → Type 0
WasWord r None = Unit {0}
WasWord r (Some word) =
    (version_of word ≤ r.version)
    × (is_readable (state_of word) ≡ false → version_of word ≡ r.version → is_readable r.state ≡ false)
    × (r.state ≡ EVICTED → version_of word ≡ r.version → state_of word ≡ EVICTED)

-- the number was the next word once: the next word never falls
abbrev pub WasNext : ℕ → Option ℕ → Type 0
WasNext next None = Unit {0}
WasNext next (Some x) = x ≤ next

-- the same of the words that a step on a state word or on the next word found and left
abbrev pub WereWords : World → Did → Type 0
WereWords w d =
    at_state d.at (λ p. WasWord (w.core.pages p) d.found × WasWord (w.core.pages p) d.wrote) ×
    at_next d.at (WasNext w.core.next d.found × WasNext w.core.next d.wrote)

-- as long as the page has the version that its read had, and is no member still to be released, its words are tied
abbrev pub TieHolds : (Start → ℕ → List ℕ → ℕ → List ℕ → Type 0) → Start → World → (ℕ → Bool) → Tie → Type 0
TieHolds tied began w pending t =
    (t.page < w.core.shape.pages)
    × (t.version ≤ (w.core.pages t.page).version)
    × (t.version ≡ (w.core.pages t.page).version → pending t.page ≡ false → tied began t.of t.words t.page (w.histories t.page).last.words)

-- a translation word is 0, or names a frame
abbrev pub ArePlain : Origin → List ℕ → Type 0
ArePlain start words = (p : ℕ) → p < start.pages → (table_words start words).translations p ≡ trans_word
    (mapping_of ((table_words start words).translations p))

-- ---- what the layer above keeps

-- the start, as the layer above knows it
abbrev pub began_of : Origin → Start
began_of start = record { pages = start.contents; next = start.next; free = start.free }

-- the logical words of page p: its draft, where it is a member still to be released of a group that was released in
-- part
unfoldable pub logical : (ℕ → History) → (ℕ → Bool) → ℕ → List ℕ
logical histories pending p = if pending p then (histories p).draft else (histories p).last.words

module _ {X : Type 0} where
  -- page p is a member still to be released
  abbrev pub is_pending : List (View X) → ℕ → Bool
  is_pending views p = any (λ v. has p v.pending) views

  -- page p was claimed for a group that is not released yet
  abbrev pub is_owed : List (View X) → ℕ → Bool
  is_owed views p = any (λ v. has p v.owed) views

  -- what the pass has of page numbers
  abbrev pub hands_of : View X → Hands
  hands_of v = record { numbers = v.numbers; freed = v.freed; owed = v.owed; pending = v.pending }

  -- the logical pages, the next page, the pages owed, by rising number, the numbers that are free, held and still to
  -- be given, and the history
  abbrev pub kept_of : World → List (Entry X) → List (View X) → Kept X
  kept_of w history views =
      record {
        pages = listed w.core.shape.pages (logical w.histories (is_pending views));
        next = w.core.next;
        owed = chosen w.core.shape.pages (is_owed views);
        free = has_free_bit w.core.spares;
        held = λ p. any (λ v. has p v.numbers) views;
        freed = λ p. any (λ v. has p v.freed) views;
        history = history;
      }

  -- ---- one pass

  -- the pass holds nothing: no share, no lock, no write-back, no frame, no block
  pub record HoldsNothing (v : View X) : Type 0 where
    pub shares : (p : ℕ) → (seat_of v p).shares ≡ 0
    pub exclusive : (p : ℕ) → (seat_of v p).exclusive ≡ false
    pub writing : (p : ℕ) → (seat_of v p).writing ≡ false
    pub frames : v.frames ≡ []
    pub numbers : (v.numbers ≡ []) × (v.freed ≡ [])
    pub out : v.out ≡ None

  -- what the pass knows of the lists that all passes share
  pub record KnowsLists (start : Origin) (releases : List Release) (history : List (Entry X)) (v : View X) : Type 0 where
    pub same_start : v.start ≡ start
    -- both lists begin with what the pass has seen of them, and what it has not seen of the history has none of its
    -- numbers
    pub saw : StartsWith releases v.releases
    pub heard : Hears history v.used v.seen
    -- so do they with what it learned by a join; the numbers from which it learned it are its own
    pub told : StartsWith releases v.told_releases × Hears history v.told_used v.told
        × ((k : ℕ) → has k v.told_used ≡ true → has k v.used ≡ true)
    -- its own entries are those with one of its numbers, all, in order; a fresh part has none
    pub mine : v.mine ≡ entries_by v.used v.seen
    pub fresh : (k : ℕ) → has k v.fresh ≡ true → entries_by (k ∷ []) history ≡ []
    -- a pass without a part holds nothing
    pub idle : v.used ≡ [] → v.fresh ≡ [] → HoldsNothing v

  -- what the pass knows of what it holds and of what it read
  pub record KnowsPages (tied : Start → ℕ → List ℕ → ℕ → List ℕ → Type 0) (start : Origin) (w : World)
      (unreleased : ℕ → Bool) (v : View X) : Type 0 where
    pub knows : (p : ℕ) → KnowsPage (seat_of v p) (put_at no_held v.held p) (w.core.pages p)
    -- the owner word of the frame of a page whose device the pass may call
    pub owners : KnowsOwners w.core.owners (seat_of v) (put_at no_held v.held)
    pub contents : (f : ℕ) → has f v.frames ≡ true → put_at [] v.contents f ≡ w.core.words f
    pub drafts : (p : ℕ) → (seat_of v p).exclusive ≡ true → draft_of v p ≡ (w.histories p).draft
    -- it has seen the last version of each page that it has locked
    pub latest : (p : ℕ) → IsLocking (seat_of v p) → last_of v p ≡ (w.histories p).last
    -- a member still to be released is held; one that was never claimed has no new words
    pub pending : (p : ℕ) → has p v.pending ≡ true →
        ((seat_of v p).exclusive ≡ true) × (start.tells ≡ true → w.core.next ≤ p → (w.histories p).draft ≡ (w.histories p).last.words)
    -- a page that is owed is held, was claimed since the start, and is no member of a group
    pub owed : (p : ℕ) → has p v.owed ≡ true → ((seat_of v p).exclusive ≡ true) × (start.next ≤ p) × (p < w.core.next)
        × (has p v.pending ≡ false)
    pub next : (x : ℕ) → v.next ≡ Some x → ((seat_of v x).exclusive ≡ true) × (w.core.next ≡ x)
    pub translations : Each (TranslationHolds w.core.pages) v.translations
    -- the words of its steps were those of the table
    pub words : Each (WereWords w) v.log
    pub ties : start.tells ≡ true → Each (TieHolds tied (began_of start) w unreleased) v.ties

  -- ---- all passes

  -- the fault words, the counts of the blocks, and the notes: a fault word is at most the count; each count noted of
  -- a page is a fault's, and at
  -- most its fault word; each pair is noted once, but at the last count
  pub record FaultsFit (pages : ℕ → Page) (views : List (View X)) : Type 0 where
    pub below : (p : ℕ) → (pages p).fault ≤ (pages p).count
    pub capped : (p : ℕ) → (pages p).count ≤ MAX_COUNT
    pub noted : (j : ℕ) (v : View X) → get_elem? views j ≡ maybe.some v → (p count : ℕ)
        → 1 ≤ times_noted p count v.notes →
        (1 ≤ count) × (count ≤ (pages p).fault)
    pub once : (p count : ℕ) → count ≢ MAX_COUNT → total (λ v. times_noted p count v.notes) views ≤ 1

  -- the lists: they are the longest that a live pass has seen; entries have numbers of parts, counted for each;
  -- releases have the next versions
  pub record ListsFit (start : Origin) (releases : List Release) (history : List (Entry X)) (views : List (View X)) : Type 0 where
    pub longest_releases : (j : ℕ) × (v : View X) × (get_elem? views j ≡ maybe.some v)
        × ((v.releases ≡ releases) ⊎ (v.told_releases ≡ releases))
    pub longest : (j : ℕ) × (v : View X) × (get_elem? views j ≡ maybe.some v) × ((v.seen ≡ history) ⊎ (v.told ≡ history))
    pub numbered : Each (λ e. e.number < PARTS) history
    pub counted : AreCounted (λ _. 0) history
    pub rises : AreNext start [] releases

  -- the parts: each stands in one view; a view that is spent has none and holds nothing; a whole pass that has made a
  -- step knows the table
  pub record PartsFit (releases : List Release) (history : List (Entry X)) (snapshot : Snapshot) (views : List (View X)) : Type 0 where
    pub parts : (k : ℕ) → total (owns k) views ≡ one_part k
    pub spent : (j : ℕ) (v : View X) → get_elem? views j ≡ maybe.some v → v.live ≡ false → v ≡ spent
    pub whole : (j : ℕ) (v : View X) → get_elem? views j ≡ maybe.some v → v.live ≡ true → IsWhole v → v.current ≡ true →
        (v.releases ≡ releases) × (v.seen ≡ history) × (v.snapshot ≡ snapshot)

  -- ---- blocks

  module _ {B : Type 0} (stored : B → Stored) where
    -- a block is at home, or out with a pass that may call its device; each has the bound of the one that was handed in
    pub record BlocksFit (start : Origin) (homes : List (maybe.Option (Option B))) (views : List (View X)) : Type 0 where
      pub away : (j : ℕ) (v : View X) (o : Out) → get_elem? views j ≡ maybe.some v → v.out ≡ Some o →
          (o.page < start.pages) × (may_call (seat_of v o.page) ≡ true) × (at maybe.none homes o.page ≡ slot_of o)
      pub home : (p : ℕ) → p < start.pages → out_of views p ≡ None → IsSome (home homes p)
      pub bounds : (p : ℕ) → p < start.pages → (block_of stored homes views p).bound ≡ at 0 start.bounds p

    -- the table's words and blocks, as a whole pass knows them
    abbrev pub snapshot_of : Origin → Table (Option B) (View X) → Snapshot
    snapshot_of start s = record { words = s.words; blocks = listed start.pages (block_of stored s.homes s.views) }

    -- ---- the rule

    module _ (keeps : Start → Kept X → Type 0) (tied : Start → ℕ → List ℕ → ℕ → List ℕ → Type 0) (start : Origin) where
      -- the releases so far, in order; the history so far, in order; the drafts of the pages that are locked
      -- exclusively
      pub record Ruled (tells : Bool) (s : Table (Option B) (View X)) : Type 0 where
        pub releases : List Release
        pub history : List (Entry X)
        pub drafts : ℕ → List ℕ
        -- the table was begun for this kind of block: the blocks tell their words where the start says so
        pub telling : start.tells ≡ tells
        pub wide : (length s.words ≡ width start) × (length s.homes ≡ start.pages)
        -- the start has the words and the bound of each page
        pub sized : (length start.contents ≡ start.pages) × (length start.bounds ≡ start.pages)
        -- a translation word spells the translation that it means
        pub spelled : ArePlain start s.words
        -- the core that the table shows meets its invariant
        pub inv : Inv (world_of stored start releases drafts s)
        pub risen : start.next ≤ (core_shown stored start s).next
        -- pages that were never claimed have zero words
        pub zero : start.tells ≡ true → (p : ℕ) → (core_shown stored start s).next ≤ p → p < start.pages →
            (histories_of start releases drafts p).last.words ≡ replicate start.size 0
        -- page numbers: each stands in one place at most, and what that says of its page's words
        pub numbers : start.tells ≡ true
            → NumbersFit (has_free_bit (core_shown stored start s).spares) (core_shown stored start s).next
            (λ p. (histories_of start releases drafts p).last.words)
            (logical (histories_of start releases drafts) (is_pending s.views)) (map hands_of s.views)
        -- a bit of a free-number word that is set is a page's, whether or not the blocks tell
        pub spares : (p : ℕ) → has_free_bit (core_shown stored start s).spares p ≡ true → p < start.pages
        pub blocks : BlocksFit start s.homes s.views
        pub faults : FaultsFit (core_shown stored start s).pages s.views
        pub lists : ListsFit start releases history s.views
        pub parts : PartsFit releases history (snapshot_of start s) s.views
        pub heard : (j : ℕ) (v : View X) → get_elem? s.views j ≡ maybe.some v → v.live ≡ true
            → KnowsLists start releases history v
        pub known : (j : ℕ) (v : View X) → get_elem? s.views j ≡ maybe.some v → v.live ≡ true →
            KnowsPages tied start (world_of stored start releases drafts s) (is_pending s.views) v
        -- the layer above keeps its relation
        pub owner : start.tells ≡ true → keeps (began_of start) (kept_of (world_of stored start releases drafts s) history s.views)
