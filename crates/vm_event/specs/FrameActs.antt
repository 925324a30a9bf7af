-- The events on a page's translation and on frames: when each may happen, and the page afterwards.
use Rattle.std.specs.Prelude.{◌&&◌, ◌+◌, ◌==◌, ◌^◌, ◌||◌, ◌≡◌, Bool, false, if◌then◌else◌, is_some, IsSome, List}
use Rattle.std.specs.Prelude.{nat_lt, None, Option, Some, true, ℕ}
use Rattle.vm_event.specs.{declared.event.Mapping.Mapping, declared.event.Open.Open, Fn.upd, State.Page, StateActs.seated, Words.frame_in}
use Rattle.vm_event.specs.{Words.is_dirty}

-- the page stands in this frame
abbrev pub stands_in : Option Mapping → ℕ → Bool
stands_in None f = false
stands_in (Some m) f = m.frame == f

-- the actor holds the page exclusively, and it stands in this frame, dirty or clean
pub record HoldsAt (r : Page) (a f : ℕ) (dirty : Bool) : Type 0 where
  pub owns : (r.seats a).exclusive ≡ true
  pub stands : r.trans ≡ Some (record { frame = f; dirty = dirty })

-- ---- tload

-- the word of a translation: the frame's number and one more, with the dirty bit on top, or 0
abbrev pub trans_word : Option Mapping → ℕ
trans_word None = 0
trans_word (Some m) = m.frame + 1 + (if m.dirty then 2 ^ 63 else 0)

abbrev pub mapping_at : Option ℕ → Bool → Option Mapping
mapping_at None dirty = None
mapping_at (Some f) dirty = Some (record { frame = f; dirty = dirty })

-- the translation that a word says: none where the word names no frame, whether or not its dirty bit is set
abbrev pub mapping_of : ℕ → Option Mapping
mapping_of word = mapping_at (frame_in word) (is_dirty word)

-- the frame of an open read: the one that it has, else the one seen
abbrev pub frame_or : Option ℕ → ℕ → Option ℕ
frame_or None f = Some f
frame_or (Some g) f = Some g

-- an open read without a frame gets the one seen
abbrev pub framed : Option Open → Option Mapping → Option Open
framed None t = None
framed (Some o) None = Some o
framed (Some o) (Some m) = Some (record o { frame = frame_or o.frame m.frame })

abbrev pub frame_read : Page → ℕ → Page
frame_read r a = seated r a (record (r.seats a) { reading = framed (r.seats a).reading r.trans })

-- ---- install, clear

-- the frame's words are the block's, where the block tells them
pub record MayInstall (tells : Bool) (r : Page) (a : ℕ) (inside : List ℕ) : Type 0 where
  pub owns : (r.seats a).exclusive ≡ true
  pub empty : r.trans ≡ None
  pub loaded : tells ≡ true → inside ≡ r.block

abbrev pub installed : Page → ℕ → Page
installed r f = record r { trans = Some (record { frame = f; dirty = false }) }

abbrev pub MayClear : Page → ℕ → Type 0
MayClear r a = (f : ℕ) × HoldsAt r a f false

abbrev pub cleared : Page → Page
cleared r = record r { trans = None }

-- the frame of a translation comes to the frames held
abbrev pub gains : (ℕ → Bool) → Option Mapping → ℕ → Bool
gains row None = row
gains row (Some m) = upd row m.frame true

-- ---- dirty, clean

pub record MayDirty (r : Page) (a : ℕ) : Type 0 where
  pub owns : (r.seats a).exclusive ≡ true
  pub resident : IsSome r.trans

-- the block's words are the frame's, where the block tells them
pub record MayClean (tells : Bool) (words : ℕ → List ℕ) (r : Page) (a : ℕ) : Type 0 where
  pub writes : (r.seats a).writing ≡ true
  pub resident : IsSome r.trans
  pub stored : tells ≡ true → (m : Mapping) → r.trans ≡ Some m → r.block ≡ words m.frame

-- the translation made dirty or clean
abbrev pub with_dirty : Bool → Option Mapping → Option Mapping
with_dirty dirty None = None
with_dirty dirty (Some m) = Some (record m { dirty = dirty })

abbrev pub dirtied : Page → Page
dirtied r = record r { trans = with_dirty true r.trans }

abbrev pub cleaned : Page → Page
cleaned r = record r { trans = with_dirty false r.trans }

-- ---- load

-- the actor has a lock of the page, which is resident
abbrev pub reads_locked : Page → ℕ → Bool
reads_locked r a = ((r.seats a).exclusive || nat_lt 0 (r.seats a).shares) && is_some r.trans

abbrev pub frame_of : Option Mapping → Option ℕ
frame_of None = None
frame_of (Some m) = Some m.frame

abbrev pub open_frame : Option Open → Option ℕ
open_frame None = None
open_frame (Some o) = o.frame

-- the frame that a load of the actor reads
abbrev pub load_frame : Page → ℕ → Option ℕ
load_frame r a = if reads_locked r a then frame_of r.trans else open_frame (r.seats a).reading
