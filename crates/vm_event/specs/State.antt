-- The state of the core.
use Rattle.std.specs.Prelude.{Bool, List, Option, ℕ}
use Rattle.vm_event.specs.{declared.event.CoreShape.CoreShape, declared.event.Mapping.Mapping, declared.event.Seat.Seat}

-- one page: its state word in its two parts, its translation, its fault word, its block's count and words, and what each actor has of it
pub record Page : Type 0 where
  pub state : ℕ
  pub version : ℕ
  pub trans : Option Mapping
  pub fault : ℕ
  pub count : ℕ
  pub block : List ℕ
  pub seats : ℕ → Seat

-- the core: its pages, the words of its frames, the bundle words, the frames that each actor holds, the next word, the hand, and by frame
-- the owner words: 0, or the number of a page and one more; the free-number words, 64 pages to a word, and the page numbers that each
-- actor holds; where its blocks do not tell their words, the words of the blocks stand for nothing; `size` is how many words a page has;
-- the head of a page is the page under whose state word it stands: the first of its group, and itself where it is in none
pub record State : Type 0 where
  pub shape : CoreShape
  pub size : ℕ
  pub tells : Bool
  pub head : ℕ → ℕ
  pub pages : ℕ → Page
  pub words : ℕ → List ℕ
  pub bundles : ℕ → ℕ
  pub held : ℕ → ℕ → Bool
  pub next : ℕ
  pub hand : ℕ
  pub owners : ℕ → ℕ
  pub spares : ℕ → ℕ
  pub numbers : ℕ → ℕ → Bool
