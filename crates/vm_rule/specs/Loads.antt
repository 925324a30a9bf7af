-- What a load tells: of a translation word, or of a word of a page's frame.
use Rattle.std.specs.Prelude.{[], if◌then◌else◌, is_some, IsSome, List, nat_lt, None, Option, slice_index, Some, true}
use Rattle.std.specs.Prelude.{ℕ, ◌&&◌, ◌++◌, ◌<◌, ◌||◌, ◌∷◌, ◌≡◌, ◌≤◌}
use Rattle.vm_event.specs.Prelude.{frame_of, framed, loads_more, mapping_of, open_frame}
use Rattle.vm_event.specs.{declared.event.Mapping.Mapping, declared.event.Open.Open}
use Rattle.vm_rule.specs.{Brought.Brings, declared.view.Translation.Translation, declared.view.View.View}
use Rattle.vm_rule.specs.{Log.did_load, Puts.put, Puts.put_at, Reading.last_of, Rule.no_held, Views.draft_of}
use Rattle.vm_rule.specs.{Views.IsLocking, Views.loads_at, Views.may_call, Views.seat_of}
use Rattle.vm_rule.specs.declared.view.WordPlace.TheVariants as places

-- the translation word of p was loaded: an open read without a frame gets the frame that it names
abbrev pub translation_of : ℕ → ℕ → Option Open → List Translation
translation_of p found None = []
translation_of p found (Some o) = record { page = p; version = o.version; word = found } ∷ []

module _ {X : Type 0} where
  -- the view after it
  abbrev pub tloaded_view : ℕ → ℕ → View X → View X
  tloaded_view p found v =
      record v {
        seats = put p (record (seat_of v p) { reading = framed (seat_of v p).reading (mapping_of found) }) v.seats;
        translations = translation_of p found (seat_of v p).reading ++ v.translations;
      }

  -- the word names a frame of the table, or none; where the pass has the page locked, it is the one that the pass knows
  pub record TranslationTold (p found : ℕ) (v w : View X) : Type 0 where
    pub brings : Brings (did_load (places.Translation p) found) [] [] v (tloaded_view p found v) w
    pub inside : (m : Mapping) → mapping_of found ≡ Some m → m.frame < v.start.frames
    pub locked : IsLocking (seat_of v p) → frame_of (mapping_of found) ≡ frame_of (put_at no_held v.held p).mapping
    pub called : may_call (seat_of v p) ≡ true → mapping_of found ≡ (put_at no_held v.held p).mapping

  -- the frame that a load of p reads: that of the page where the pass has it locked, else the open read's
  abbrev pub frame_read_by : View X → ℕ → Option ℕ
  frame_read_by v p =
      if ((seat_of v p).exclusive || nat_lt 0 (seat_of v p).shares) && is_some (put_at no_held v.held p).mapping
      then frame_of (put_at no_held v.held p).mapping else open_frame (seat_of v p).reading

  -- the load counts for the open read, where that has a frame
  abbrev pub loaded_view : ℕ → ℕ → ℕ → View X → View X
  loaded_view p i found v = record v { loads = put p (loads_more (open_frame (seat_of v p).reading) (loads_at v p) i found) v.loads }

  -- under a lock the word is the draft's, where the page is resident, or the last version's
  pub record LoadTold (p f i found : ℕ) (v w : View X) : Type 0 where
    pub brings : Brings (did_load (places.Content f i) found) [] [] v (loaded_view p i found v) w
    pub drafted : v.start.tells ≡ true → (seat_of v p).exclusive ≡ true → IsSome (put_at no_held v.held p).mapping
        → found ≡ slice_index (draft_of v p) i
    pub shared : v.start.tells ≡ true → 1 ≤ (seat_of v p).shares → found ≡ slice_index (last_of v p).words i
