-- What the walk asks of one page.
use Rattle.std.specs.Prelude.{ℕ, ◌+◌, ◌-◌, List, [], ◌∷◌, length, drop, slice_index, Option, Some, None, Bool, true}
use Rattle.std.specs.Prelude.{false, not, ◌&&◌, ◌||◌, ◌==◌, nat_le, nat_lt, if◌then◌else◌}
use Rattle.vm_map.specs.Map.{Pairs}
use Rattle.vm_tree_model.specs.Layout.{Layout}
pub use Rattle.vm_tree_model.specs.Fixed.{all_zero}
use Rattle.vm_tree_model.specs.Page.{pairs_of}

-- A place in the tree and the page that is named for it. `high` is exclusive, and the end of all keys where there is no high fence
pub record Slot : Type 0 where
  pub page : ℕ
  pub level : ℕ
  pub low : ℕ
  pub high : ℕ

-- the first key, and high where there is none
abbrev pub first_key : Pairs → ℕ → ℕ
first_key [] high = high
first_key (e ∷ es) high = e.0

-- the slots of the children that the pairs name, from left to right
abbrev pub children : ℕ → Pairs → ℕ → List Slot
children level [] high = []
children level (e ∷ es) high = record { page = e.1; level = level; low = e.0; high = first_key es high } ∷ children level es high

-- the slots below the page that fills the slot
abbrev pub slots_below : Layout → Slot → List ℕ → List Slot
slots_below L slot words = if slot.level == 0 then [] else children (slot.level - 1) (pairs_of L words) slot.high

-- the page is free: its words are 0
abbrev pub is_free : Layout → List ℕ → Bool
is_free L words = length words == L.words && all_zero words

-- a leaf at level 0, an inner node above
abbrev pub has_tag : Layout → Slot → List ℕ → Bool
has_tag L slot words = (L.node_of words).tag == (if slot.level == 0 then 2 else 3)

abbrev pub has_fences : Layout → Slot → List ℕ → Bool
has_fences L slot words = L.has_fences slot.low slot.high words

abbrev pub has_form : Layout → Slot → List ℕ → Bool
has_form L slot words = L.has_form slot.level words

-- the keys rise, from low on and below high
abbrev pub rises : ℕ → ℕ → Pairs → Bool
rises low high [] = true
rises low high (e ∷ es) = nat_le low e.0 && nat_lt e.0 high && rises (e.0 + 1) high es

-- the first key is low
abbrev pub starts_at : ℕ → Pairs → Bool
starts_at low [] = false
starts_at low (e ∷ es) = e.0 == low

-- the keys rise within the fences, and an inner node's first key is its low fence
abbrev pub has_keys : Layout → Slot → List ℕ → Bool
has_keys L slot words = rises slot.low slot.high (pairs_of L words) && (slot.level == 0 || starts_at slot.low (pairs_of L words))

-- each pair's second number is one of the pages but 0
abbrev pub names_pages : ℕ → Pairs → Bool
names_pages pages [] = true
names_pages pages (e ∷ es) = nat_le 1 e.1 && nat_lt e.1 pages && names_pages pages es

abbrev pub has_children : Layout → ℕ → Slot → List ℕ → Bool
has_children L pages slot words = slot.level == 0 || names_pages pages (pairs_of L words)

-- why the page does not fill its slot, in an image of so many pages
abbrev pub slot_fault : Layout → ℕ → Bool → Slot → List ℕ → Option ℕ
slot_fault L pages visited slot words =
    if visited then Some 3 else
    (if not (has_tag L slot words) then Some 4 else
    (if not (has_fences L slot words) then Some 5 else
    (if not (has_form L slot words) then Some 6 else
    (if not (has_keys L slot words) then Some 7 else
    (if not (has_children L pages slot words) then Some 8 else None)))))

-- why page 0 is no meta page, in an image of so many pages
abbrev pub meta_fault : Layout → ℕ → List ℕ → Option ℕ
meta_fault L pages words =
    if not (slice_index words 0 == L.magic) then Some 1 else
    (if not (length words == L.words && nat_le 1 (slice_index words 1) && nat_lt (slice_index words 1) pages && nat_le
    (slice_index words 2 + 2) pages && all_zero (drop 3 words)) then Some 2 else None)
