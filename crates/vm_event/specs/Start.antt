-- The core at the start: every page evicted at the first version, every frame free and no page's.
use Rattle.std.specs.List.{range_with_len}
use Rattle.std.specs.Prelude.{[], ◌*◌, ◌+◌, ◌-◌, ◌^◌, ◌≡◌, ◌≤◌, Bool, false, if◌then◌else◌, length, List, map, min}
use Rattle.std.specs.Prelude.{nat_lt, None, replicate, true, ℕ}
use Rattle.vm_page.specs.declared.buf.TheConstants.{WORDS}
use Rattle.vm_event.specs.{declared.event.CoreShape.CoreShape, declared.event.Seat.Seat, Groups.GroupsFit, Groups.head_in}
use Rattle.vm_event.specs.{declared.words.TheConstants.FRAMES, History.World, State.Page, State.State, Words.EVICTED}
use Rattle.vm_event.specs.{Words.MAX_VERSION}

-- what a core starts from: its shape with the next word, how many words a page has, the first version of its pages, the blocks handed in by
-- their words and counts of faults, whether they tell their words, and the groups of pages
pub record CoreStart : Type 0 where
  pub shape : CoreShape
  pub size : ℕ
  pub first : ℕ
  pub tells : Bool
  pub blocks : ℕ → List ℕ
  pub counts : ℕ → ℕ
  pub groups : List (ℕ × ℕ)

abbrev pub no_seat : Seat
no_seat = record { shares = 0; exclusive = false; writing = false; reading = None }

-- an evicted page with these words and this count in its block
abbrev pub evicted_page : ℕ → List ℕ → ℕ → Page
evicted_page version block count =
    record { state = EVICTED; version = version; trans = None; fault = count; count = count; block = block; seats = λ a. no_seat }

-- the bits of the frames of bundle g
unfoldable pub full_bundle : ℕ → ℕ → ℕ
full_bundle frames g = 2 ^ min FRAMES (frames - FRAMES * g) - 1

-- the next word is at most the number of pages, the first version is a version, each block has a page's words, and the groups fit
pub record IsStart (s : CoreStart) : Type 0 where
  pub next : s.shape.next ≤ s.shape.pages
  pub first : s.first ≤ MAX_VERSION
  pub blocks : (p : ℕ) → length (s.blocks p) ≡ s.size
  pub groups : GroupsFit s.shape.pages s.groups

-- the state at the start: every page evicted, every frame free and no page's
abbrev pub start : CoreStart → State
start s =
    record {
      shape = s.shape;
      size = s.size;
      tells = s.tells;
      head = head_in s.groups;
      pages = λ p. evicted_page s.first (s.blocks p) (s.counts p);
      words = λ f. replicate s.size 0;
      bundles = full_bundle s.shape.frames;
      held = λ a f. false;
      next = s.shape.next;
      hand = 0;
      owners = λ f. 0;
      spares = λ g. 0;
      numbers = λ a p. false;
    }

-- with its histories: the first version of each page has its block's words
abbrev pub begin : CoreStart → World
begin s =
    record {
      core = start s;
      histories = λ p. record { older = []; last = record { version = s.first; words = s.blocks p }; draft = [] };
      loads = λ p a. [];
    }

-- ---- the start of a core of its own

-- block p below the next word has word i = 64 * p + i, and zeros from there on
unfoldable pub core_block : ℕ → ℕ → List ℕ
core_block next p = if nat_lt p next then map (λ i. WORDS * p + i) (range_with_len 0 WORDS) else replicate WORDS 0

-- what `Core::new` starts from
abbrev pub core_start : CoreShape → List (ℕ × ℕ) → CoreStart
core_start shape groups =
    record {
      shape = shape;
      size = WORDS;
      first = 0;
      tells = true;
      blocks = core_block shape.next;
      counts = λ p. 0;
      groups = groups;
    }

-- what stands past the last page, of so many words
abbrev pub outside_page : ℕ → Page
outside_page size = evicted_page 0 (replicate size 0) 0
