-- Nodes on pages of n words whose keys are words: a header of eight words, then a key and a value for each pair.
use Rattle.std.specs.Prelude.{ℕ, ◌+◌, ◌-◌, ◌*◌, ◌/◌, ◌==◌, ◌||◌, ◌&&◌, nat_le, nat_lt, List, [], ◌∷◌, length, take}
use Rattle.std.specs.Prelude.{drop, min, slice_index, Bool, if◌then◌else◌}
use Rattle.vm_map.specs.Keys.{KEY_END}
use Rattle.vm_map.specs.Map.{Pairs}
pub use Rattle.vm_page.specs.Pages.{all_zero}
use Rattle.vm_tree_model.specs.Node.{Node}
use Rattle.vm_tree_model.specs.Layout.{Layout}

-- how many pairs a page of n words has place for
abbrev pub capacity : ℕ → ℕ
capacity n = (n - 8) / 2

-- two words after each other, as pairs
abbrev pub pairs_in : List ℕ → Pairs
pairs_in [] = []
pairs_in (k ∷ []) = []
pairs_in (k ∷ v ∷ rest) = (k, v) ∷ pairs_in rest

-- the places for pairs
abbrev pub places : List ℕ → Pairs
places words = pairs_in (drop 8 words)

-- the pairs that the page holds: a count above the capacity is read as the capacity
abbrev pub fixed_pairs : ℕ → List ℕ → Pairs
fixed_pairs n words = take (min (slice_index words 1) (capacity n)) (places words)

-- the high fence, and 2 ^ 64 where there is none
abbrev pub high_of : List ℕ → ℕ
high_of words = if slice_index words 4 == 0 then slice_index words 3 else KEY_END

abbrev pub fixed_node : ℕ → List ℕ → Node
fixed_node n words = record {
  tag = slice_index words 0;
  level = slice_index words 5;
  low = slice_index words 2;
  high = high_of words;
  pairs = fixed_pairs n words;
}

-- n words, a count that fits, a high fence or none, and zeros where no word has a meaning
abbrev pub fixed_is_clean : ℕ → List ℕ → Bool
fixed_is_clean n words = length words == n && nat_le (slice_index words 1)
    (capacity n) && (slice_index words 4 == 0 && nat_lt (slice_index words 3) KEY_END || slice_index words 4 ==
    1 && slice_index words 3 == 0)
    && slice_index words 6 == 0 && slice_index words 7 == 0 && all_zero (drop (8 + 2 * slice_index words 1) words)

abbrev pub fixed_has_fences : ℕ → ℕ → List ℕ → Bool
fixed_has_fences low high words =
    slice_index words 2 == low && (if high == KEY_END then slice_index words 3 == 0 && slice_index words 4 == 1 else
    slice_index words 3 == high && slice_index words 4 == 0)

-- the page has n words, the number of pairs is in its range, the level is the slot's, and the words without a meaning are 0
abbrev pub fixed_has_form : ℕ → ℕ → List ℕ → Bool
fixed_has_form n level words = length words == n && (level == 0 || nat_le 1 (slice_index words 1)) && nat_le
    (slice_index words 1) (capacity n) && slice_index words 5 == level && slice_index words 6 == 0 && slice_index
    words 7 == 0 && all_zero (drop (8 + 2 * slice_index words 1) words)

-- the first word of page 0: "VMCACHE1" for 64 words, "VMCACHE2" for 512
abbrev pub fixed_magic : ℕ → ℕ
fixed_magic n = if n == 64 then 0x564D434143484531 else 0x564D434143484532

-- pages of n words, n from 64 on a multiple of 4: each pair counts 1
abbrev pub fixed : ℕ → Layout
fixed n = record {
  words = n;
  magic = fixed_magic n;
  key_end = KEY_END;
  node_of = fixed_node n;
  is_clean = fixed_is_clean n;
  has_fences = fixed_has_fences;
  has_form = fixed_has_form n;
  fence_size = λ _. 0;
  pair_size = λ _. 1;
  room = capacity n;
  growth = 1;
  merge_room = capacity n * 5 / 7;
  base = capacity n / 2;
  node_weight = capacity n / 2 - 1;
  excess_weight = 2;
}
