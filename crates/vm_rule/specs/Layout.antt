-- Where each word of the table stands: P state words, P translation words, P fault words, a page's words for each
-- frame, a word for each bundle of 64 frames, the next word, the hand word, an owner word for each frame, a
-- free-number word for each 64 pages.
use Rattle.std.specs.Prelude.{◌*◌, ◌+◌, ◌-◌, ◌/◌, ◌<◌, if◌then◌else◌, List, nat_lt, ℕ}
use Rattle.vm_event.specs.{declared.words.TheConstants.FRAMES, Prelude.at, Prelude.upd}
use Rattle.vm_rule.specs.{declared.view.Origin.Origin, declared.view.WordPlace.WordPlace}
use Rattle.vm_rule.specs.declared.view.WordPlace.TheVariants.{Bundle, Content, Fault, Hand, Next}
use Rattle.vm_rule.specs.declared.view.WordPlace.TheVariants.{Owner, Spare, State, Translation}

-- the bundles of 64 frames
abbrev pub bundles_of : ℕ → ℕ
bundles_of frames = (frames + (FRAMES - 1)) / FRAMES

abbrev pub bundle_count : Origin → ℕ
bundle_count start = bundles_of start.frames

-- the place's number among the table's words
abbrev pub index_of : Origin → WordPlace → ℕ
index_of start (State p) = p
index_of start (Translation p) = start.pages + p
index_of start (Fault p) = 2 * start.pages + p
index_of start (Content f i) = 3 * start.pages + (start.size * f + i)
index_of start (Bundle g) = 3 * start.pages + start.size * start.frames + g
index_of start Next = 3 * start.pages + start.size * start.frames + bundle_count start
index_of start Hand = 3 * start.pages + start.size * start.frames + bundle_count start + 1
index_of start (Owner f) = 3 * start.pages + start.size * start.frames + bundle_count start + 2 + f
index_of start (Spare g) = 3 * start.pages + start.size * start.frames + bundle_count start + 2 + start.frames + g

-- what is said of page p, if the place is its state word
abbrev pub at_state : WordPlace → (ℕ → Type 0) → Type 0
at_state (State p) P = P p
at_state w P = Unit {0}

-- what is said of the next word, if the place is its
abbrev pub at_next : WordPlace → Type 0 → Type 0
at_next Next P = P
at_next w P = Unit {0}

-- how many words the table has, whose pages have so many
abbrev pub width_of : ℕ → ℕ → ℕ → ℕ
width_of size pages frames = 3 * pages + size * frames + bundles_of frames + 2 + frames + bundles_of pages

-- how many words a table has
abbrev pub width : Origin → ℕ
width start = width_of start.size start.pages start.frames

-- the place is one of the table's
abbrev pub Within : Origin → WordPlace → Type 0
Within start (State p) = p < start.pages
Within start (Translation p) = p < start.pages
Within start (Fault p) = p < start.pages
Within start (Content f i) = (f < start.frames) × (i < start.size)
Within start (Bundle g) = g < bundle_count start
Within start Next = Unit {0}
Within start Hand = Unit {0}
Within start (Owner f) = f < start.frames
Within start (Spare g) = g < bundles_of start.pages

-- the n words from base on, as a function
unfoldable pub part : ℕ → ℕ → List ℕ → ℕ → ℕ
part base n words k = if nat_lt k n then at 0 words (base + k) else 0

-- the words of the table, by what they are
pub record Words : Type 0 where
  pub size : ℕ
  pub states : ℕ → ℕ
  pub translations : ℕ → ℕ
  pub faults : ℕ → ℕ
  pub contents : ℕ → ℕ
  pub bundles : ℕ → ℕ
  pub next : ℕ
  pub hand : ℕ
  pub owners : ℕ → ℕ
  pub spares : ℕ → ℕ

-- the words of a table, by what they are
abbrev pub table_words : Origin → List ℕ → Words
table_words start words =
    record {
      size = start.size;
      states = part 0 start.pages words;
      translations = part start.pages start.pages words;
      faults = part (2 * start.pages) start.pages words;
      contents = part (3 * start.pages) (start.size * start.frames) words;
      bundles = part (3 * start.pages + start.size * start.frames) (bundle_count start) words;
      next = at 0 words (index_of start Next);
      hand = at 0 words (index_of start Hand);
      owners = part (3 * start.pages + start.size * start.frames + bundle_count start + 2) start.frames words;
      spares = part (3 * start.pages + start.size * start.frames + bundle_count start + 2 + start.frames) (bundles_of start.pages) words;
    }

-- one word is set
abbrev pub with_word : Words → WordPlace → ℕ → Words
with_word r (State p) x = record r { states = upd r.states p x }
with_word r (Translation p) x = record r { translations = upd r.translations p x }
with_word r (Fault p) x = record r { faults = upd r.faults p x }
with_word r (Content f i) x = record r { contents = upd r.contents (r.size * f + i) x }
with_word r (Bundle g) x = record r { bundles = upd r.bundles g x }
with_word r Next x = record r { next = x }
with_word r Hand x = record r { hand = x }
with_word r (Owner f) x = record r { owners = upd r.owners f x }
with_word r (Spare g) x = record r { spares = upd r.spares g x }
