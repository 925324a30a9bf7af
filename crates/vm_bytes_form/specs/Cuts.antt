-- What keys and pairs take of a node with byte keys.
use Rattle.std.specs.Prelude.{ℕ, ◌+◌, ◌-◌, ◌/◌, ◌<◌, ◌≤◌, length, take, drop}
use Rattle.vm_map.specs.Map.{Pairs}
use Rattle.vm_tree_model.specs.Layout.{pairs_size}
use Rattle.vm_bytes_form.specs.Strings.{string_of}

-- the words of a string of so many bytes
abbrev pub words_for : ℕ → ℕ
words_for bytes = (bytes + 7) / 8

-- the words of the key with this rank, and of its pair: a slot, the key, the value
abbrev pub key_words : ℕ → ℕ
key_words k = words_for (length (string_of k))

abbrev pub pair_size : ℕ → ℕ
pair_size k = 2 + key_words k

-- Both halves of a full node have pairs and fit on a page of 512 words; its weight, 100 and what its size is above 261, pays for both
-- and for a pair of 10 words in the parent, or for a new root
pub record Pays (low high separator : ℕ) (es : Pairs) (m : ℕ) : Type 0 where
  pub left_some : 1 ≤ m
  pub right_some : m < length es
  pub left_fits : low + separator + pairs_size pair_size (take m es) ≤ 504
  pub right_fits : separator + high + pairs_size pair_size (drop m es) ≤ 504
  pub below : 100 + (low + separator + pairs_size pair_size (take m es) - 261) +
      (100 + (separator + high + pairs_size pair_size (drop m es) - 261)) + 10 ≤ 100 + (low + high + pairs_size pair_size es - 261)
  pub above : 100 + (low + separator + pairs_size pair_size (take m es) - 261) +
      (100 + (separator + high + pairs_size pair_size (drop m es) - 261)) + 100 ≤ 100 + (low + high + pairs_size pair_size es - 261)
