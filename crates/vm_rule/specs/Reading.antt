-- The words, the blocks and the views, read together: one state of the core, with the versions of its pages.
use Rattle.std.specs.Prelude.{[], ◌*◌, ◌++◌, ◌+◌, ◌==◌, ◌∷◌, Bool, if◌then◌else◌}
use Rattle.std.specs.Prelude.{length, List, nat_lt, None, Option, replicate, Some, ℕ}
use mathlib.Core.Option as maybe
use Rattle.atomic_table.specs.Table.{State as Table}
use Rattle.vm_block.specs.declared.stored.Stored.{Stored}
use Rattle.vm_event.specs.Prelude.{at, History, mapping_of, outside_page, Page}
use Rattle.vm_event.specs.Prelude.{State, state_of, Version, version_of, World}
use Rattle.vm_event.specs.declared.event.Seat.{Seat}
use Rattle.vm_owner.specs.Numbers.{has}
use Rattle.vm_rule.specs.{declared.view.Origin.Origin, declared.view.Out.Out, declared.view.Release.Release}
use Rattle.vm_rule.specs.{declared.view.View.View, Layout.table_words, Layout.Words, Puts.listed, Views.loads_at}
use Rattle.vm_rule.specs.{Views.seat_of, Views.spent}

-- ---- pages and frames

-- the words of frame f
unfoldable pub frame_words : ℕ → (ℕ → ℕ) → ℕ → List ℕ
frame_words size contents f = listed size (λ i. contents (size * f + i))

-- page p from its words, its block and the seats
abbrev pub page_from : Words → (ℕ → Stored) → (ℕ → ℕ → Seat) → ℕ → Page
page_from r blocks seats p =
    record {
      state = state_of (r.states p);
      version = version_of (r.states p);
      trans = mapping_of (r.translations p);
      fault = r.faults p;
      count = (blocks p).count;
      block = (blocks p).words;
      seats = seats p;
    }

unfoldable pub pages_from : ℕ → Words → (ℕ → Stored) → (ℕ → ℕ → Seat) → ℕ → Page
pages_from pages r blocks seats p = if nat_lt p pages then page_from r blocks seats p else outside_page r.size

-- the core state; its actors are the passes, and its pages are in no group: each is its own head
abbrev pub core_from : Origin → ℕ → Words → (ℕ → Stored) → (ℕ → ℕ → Seat) → (ℕ → ℕ → Bool) → (ℕ → ℕ → Bool) → State
core_from start actors r blocks seats held numbers =
    record {
      shape = record { pages = start.pages; frames = start.frames; actors = actors; next = start.next };
      size = r.size;
      tells = start.tells;
      head = λ p. p;
      pages = pages_from start.pages r blocks seats;
      words = frame_words r.size r.contents;
      bundles = r.bundles;
      held = held;
      next = r.next;
      hand = r.hand;
      owners = r.owners;
      spares = r.spares;
      numbers = numbers;
    }

-- ---- versions

-- the first version of page p: the words that it had at the start; past the last page stand zeros
abbrev pub first_history : Origin → ℕ → History
first_history start p =
    record {
      older = [];
      last = record {
        version = if nat_lt p start.pages then start.version else 0;
        words = if nat_lt p start.pages then at (replicate start.size 0) start.contents p else replicate start.size 0;
      };
      draft = [];
    }

abbrev pub pushed : History → Release → History
pushed h r = record h { older = h.older ++ h.last ∷ []; last = record { version = r.version; words = r.words } }

-- the history after those of the releases that are of page p
abbrev pub after_releases : ℕ → History → List Release → History
after_releases p h [] = h
after_releases p h (r ∷ rs) = after_releases p (if r.page == p then pushed h r else h) rs

-- the versions of page p: the first one and those released, with the draft
unfoldable pub histories_of : Origin → List Release → (ℕ → List ℕ) → ℕ → History
histories_of start releases drafts p = record (after_releases p (first_history start p) releases) { draft = drafts p }

-- the last version of page p after the releases
abbrev pub last_in : Origin → List Release → ℕ → Version
last_in start releases p = (after_releases p (first_history start p) releases).last

-- ---- blocks

abbrev pub no_block : Stored
no_block = record { words = []; count = 0; bound = 0; reads = 0; writes = 0 }

-- the block at home
abbrev pub at_home : {B : Type 0} → maybe.Option (Option B) → Option B
at_home maybe.none = None
at_home (maybe.some b) = b

-- the block at home of a page, where its slot has one
abbrev pub home : {B : Type 0} → List (maybe.Option (Option B)) → ℕ → Option B
home homes p = at_home (at maybe.none homes p)

-- the block that is out, if it is the page's
abbrev pub out_or : Option Out → ℕ → Option Stored → Option Stored
out_or None p d = d
out_or (Some o) p d = if o.page == p then Some o.block else d

-- the block at home, or else as it was taken out
abbrev pub known : {B : Type 0} → (B → Stored) → Option B → Option Stored → Stored
known stored (Some b) o = stored b
known stored None (Some s) = s
known stored None None = no_block

-- ---- all together

module _ {X : Type 0} where
  -- what actor a has of page p
  abbrev pub seats_of : List (View X) → ℕ → ℕ → Seat
  seats_of views p a = seat_of (at spent views a) p

  abbrev pub loads_of : List (View X) → ℕ → ℕ → List (ℕ × ℕ)
  loads_of views p a = loads_at (at spent views a) p

  abbrev pub frames_held : List (View X) → ℕ → ℕ → Bool
  frames_held views a = λ f. has f (at spent views a).frames

  -- the frames and the page numbers that a pass holds
  abbrev pub holdings : View X → List ℕ × List ℕ
  holdings v = (v.frames, v.numbers)

  abbrev pub numbers_held : List (View X) → ℕ → ℕ → Bool
  numbers_held views a = λ p. has p (at spent views a).numbers

  -- the block of page p that a pass has out
  abbrev pub out_of : List (View X) → ℕ → Option Stored
  out_of [] p = None
  out_of (v ∷ vs) p = out_or v.out p (out_of vs p)

  -- the last version of page p, as far as the view knows the releases
  abbrev pub last_of : View X → ℕ → Version
  last_of v p = last_in v.start v.releases p

  module _ {B : Type 0} (stored : B → Stored) where
    -- the block of page p, at home or as it was taken out
    unfoldable pub block_of : List (maybe.Option (Option B)) → List (View X) → ℕ → Stored
    block_of homes views p = known stored (home homes p) (out_of views p)

    -- the core state that the table shows
    abbrev pub core_shown : Origin → Table (Option B) (View X) → State
    core_shown start s = core_from start (length s.views) (table_words start s.words) (block_of s.homes s.views)
        (seats_of s.views) (frames_held s.views) (numbers_held s.views)

    -- with the versions of its pages and the loads of the open reads
    abbrev pub world_of : Origin → List Release → (ℕ → List ℕ) → Table (Option B) (View X) → World
    world_of start releases drafts s =
        record { core = core_shown start s; histories = histories_of start releases drafts; loads = loads_of s.views }
