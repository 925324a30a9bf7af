-- What a store tells: into the frame of a page that the pass holds exclusively, or into a frame of its own.
use Rattle.std.specs.Prelude.{[], ◌≡◌, ◌⊎◌, false, length, slice_set, Some, true, ℕ}
use Rattle.vm_owner.specs.Numbers.{has}
use Rattle.vm_rule.specs.{Brought.Brings, declared.view.View.View, Log.did_store, Puts.put, Puts.put_at, Rule.no_held}
use Rattle.vm_rule.specs.{Views.draft_of, Views.seat_of}
use Rattle.vm_rule.specs.declared.view.WordPlace.TheVariants as places

module _ {X : Type 0} where
  -- the pass holds page p exclusively, which stands dirty in this frame and is no member still to be released
  pub record Drafts (v : View X) (p f : ℕ) : Type 0 where
    pub owns : (seat_of v p).exclusive ≡ true
    pub stands : (put_at no_held v.held p).mapping ≡ Some (record { frame = f; dirty = true })
    pub free : has p v.pending ≡ false

  -- a word of p's draft
  abbrev pub drafted_view : ℕ → ℕ → ℕ → View X → View X
  drafted_view p i x v = record v { drafts = put p (slice_set (draft_of v p) i x) v.drafts }

  -- a store into a dirty page's frame changes one word of its draft
  pub record StoreTold (p f i x : ℕ) (v w : View X) : Type 0 where
    pub brings : Brings (did_store (places.Content f i) x) [] [] v (drafted_view p i x v) w

  -- a word of a free frame of the pass
  abbrev pub filled_view : ℕ → ℕ → ℕ → View X → View X
  filled_view f i x v = record v { contents = put f (slice_set (put_at [] v.contents f) i x) v.contents }

  -- a store into a free frame of the pass changes one of its words
  pub record FillTold (f i x : ℕ) (v w : View X) : Type 0 where
    pub brings : Brings (did_store (places.Content f i) x) [] [] v (filled_view f i x v) w
    pub size : length (put_at [] v.contents f) ≡ v.start.size

  -- the frame is the pass's own, or a page's whose draft stands in it
  abbrev pub PassMayStore : View X → ℕ → Type 0
  PassMayStore v f = (has f v.frames ≡ true) ⊎ ((p : ℕ) × Drafts v p f)

  -- a store: the one or the other, as the frame is
  pub record StoresTold (f i x : ℕ) (v w : View X) : Type 0 where
    pub own : has f v.frames ≡ true → FillTold f i x v w
    pub page : (p : ℕ) → Drafts v p f → StoreTold p f i x v w
