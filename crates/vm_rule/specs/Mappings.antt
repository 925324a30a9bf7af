-- What the steps on a page's translation word tell: a page is put into a frame of the pass, or taken out of its
-- frame; it is made dirty, or clean.
use Rattle.std.specs.Prelude.{[], ◌<◌, ◌∷◌, ◌≡◌, Bool, false, length, List, None, Option, Some, true, ℕ}
use Rattle.vm_event.specs.{declared.event.Mapping.Mapping, Prelude.trans_word}
use Rattle.vm_owner.specs.Numbers.{has, without}
use Rattle.vm_rule.specs.{Brought.Brings, declared.view.Held.Held, declared.view.Put.Put}
use Rattle.vm_rule.specs.{declared.view.View.View, Log.did_store, Puts.put}
use Rattle.vm_rule.specs.{Puts.put_at, Reading.last_of, Rule.no_held, Views.seat_of}
use Rattle.vm_rule.specs.declared.view.WordPlace.TheVariants as places

abbrev pub clean_in : ℕ → Mapping
clean_in f = record { frame = f; dirty = false }

abbrev pub dirty_in : ℕ → Mapping
dirty_in f = record { frame = f; dirty = true }

module _ {X : Type 0} where
  -- what the pass knows of page p, which it has locked
  abbrev pub held_at : View X → ℕ → Held
  held_at v p = put_at no_held v.held p

  -- the words of frame f, which the pass holds
  abbrev pub contents_at : View X → ℕ → List ℕ
  contents_at v f = put_at [] v.contents f

  -- the pass knows this of where page p stands
  abbrev pub mapped : ℕ → Option Mapping → View X → List (Put Held)
  mapped p m v = put p (record (held_at v p) { mapping = m }) v.held

  -- ---- install

  -- p is not resident and held exclusively; the frame is the pass's, and has the words of p's block where blocks tell
  -- them
  pub record MayPutInto (v : View X) (p f : ℕ) : Type 0 where
    pub owns : (seat_of v p).exclusive ≡ true
    pub empty : (held_at v p).mapping ≡ None
    pub holds : has f v.frames ≡ true
    pub loaded : v.start.tells ≡ true → contents_at v f ≡ (held_at v p).block.words

  abbrev pub installed_view : ℕ → ℕ → View X → View X
  installed_view p f v = record v {
    held = put p (record (held_at v p) { mapping = Some (clean_in f); owner = 0 }) v.held;
    frames = without f v.frames;
  }

  -- the page was put into the frame, clean; the frame is the pass's no more, and its owner word names no page
  pub record InstallTold (p f : ℕ) (v w : View X) : Type 0 where
    pub brings : Brings (did_store (places.Translation p) (trans_word (Some (clean_in f)))) [] [] v (installed_view p f v) w

  -- ---- clear

  -- p stands clean in this frame, whose owner word names no page, and is held exclusively
  pub record StandsClean (v : View X) (p f : ℕ) : Type 0 where
    pub owns : (seat_of v p).exclusive ≡ true
    pub stands : (held_at v p).mapping ≡ Some (clean_in f)
    pub disowned : (held_at v p).owner ≡ 0

  abbrev pub cleared_view : ℕ → ℕ → List ℕ → View X → View X
  cleared_view p f words v = record v { held = mapped p None v; frames = f ∷ v.frames; contents = put f words v.contents }

  -- the frame comes to the pass with its words, which are those of p's block where blocks tell them
  pub record ClearTold (p f : ℕ) (v w : View X) : Type 0 where
    pub words : List ℕ
    pub brings : Brings (did_store (places.Translation p) (trans_word None)) [] [] v (cleared_view p f words v) w
    pub size : length words ≡ v.start.size
    pub stood : v.start.tells ≡ true → words ≡ (held_at v p).block.words
    pub inside : f < v.start.frames
    pub new : has f v.frames ≡ false

  -- ---- dirty, clean

  -- p stands in this frame, and is held exclusively
  pub record StandsIn (v : View X) (p f : ℕ) : Type 0 where
    pub owns : (seat_of v p).exclusive ≡ true
    pub dirty : Bool
    pub stands : (held_at v p).mapping ≡ Some (record { frame = f; dirty = dirty })

  abbrev pub dirty_view : ℕ → ℕ → View X → View X
  dirty_view p f v = record v { held = mapped p (Some (dirty_in f)) v }

  -- the page was made dirty in its frame
  pub record DirtyTold (p f : ℕ) (v w : View X) : Type 0 where
    pub brings : Brings (did_store (places.Translation p) (trans_word (Some (dirty_in f)))) [] [] v (dirty_view p f v) w

  -- p stands in this frame and is under write-back by the pass; its block has its last words, where blocks tell them
  pub record IsWritten (v : View X) (p f : ℕ) : Type 0 where
    pub writes : (seat_of v p).writing ≡ true
    pub dirty : Bool
    pub stands : (held_at v p).mapping ≡ Some (record { frame = f; dirty = dirty })
    pub stored : v.start.tells ≡ true → (held_at v p).block.words ≡ (last_of v p).words

  abbrev pub clean_view : ℕ → ℕ → View X → View X
  clean_view p f v = record v { held = mapped p (Some (clean_in f)) v }

  -- the page was made clean in its frame
  pub record CleanTold (p f : ℕ) (v w : View X) : Type 0 where
    pub brings : Brings (did_store (places.Translation p) (trans_word (Some (clean_in f)))) [] [] v (clean_view p f v) w
