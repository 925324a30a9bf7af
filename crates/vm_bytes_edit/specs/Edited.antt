-- Where a key stands on a page, and whether there is room for a pair of it, by the words that tell how much of the room is left.
use Rattle.std.specs.Prelude.{◌≡◌, ◌+◌, ◌<◌, List, MatchOption, None, Option, slice_index_or, suc, ℕ}
use Rattle.vm_map.specs.Map.{lookup_at, Rises}
use Rattle.vm_tree_model.specs.Page.{pairs_of}
use Rattle.vm_node.specs.Places.{IsBound}
use Rattle.vm_bytes_form.specs.Bytes.{bytes}
use Rattle.vm_bytes_form.specs.Cuts.{pair_size}
use Rattle.vm_bytes_node.specs.Room.{spare_words}

-- The keys begin to be above the key at this place; the pair before it has the key and this value, or where the keys rise none has it
pub record IsPlaced (words : List ℕ) (key at : ℕ) (old : Option ℕ) : Type 0 where
  pub bound : IsBound (pairs_of bytes words) (key + 1) at
  pub there : MatchOption old ((low high : ℕ) → Rises low high (pairs_of bytes words) → lookup_at (pairs_of bytes words) key ≡ None)
      (λ value. (i : ℕ) × (suc i ≡ at) × (slice_index_or (pairs_of bytes words) i (0, 0) ≡ (key, value)))

-- less is left than the pair takes, and the key is not there where the keys rise
pub record LacksRoomFor (words : List ℕ) (key : ℕ) : Type 0 where
  pub room : spare_words words < pair_size key
  pub absent : (low high : ℕ) → Rises low high (pairs_of bytes words) → lookup_at (pairs_of bytes words) key ≡ None

-- the key is there, or as much is left as the pair takes
abbrev pub TakesPairOf : List ℕ → ℕ → Type 0
TakesPairOf words key = ¬ ((spare_words words < pair_size key) × (lookup_at (pairs_of bytes words) key ≡ None))
