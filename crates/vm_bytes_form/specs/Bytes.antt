-- Nodes with byte keys as a layout: each key stands for its rank.
use Rattle.std.specs.Prelude.{ℕ, ◌+◌, ◌==◌, ◌&&◌, ◌||◌, nat_le, nat_lt, List, [], ◌∷◌, length, map, Option, Some, None, Bool, true, false}
use Rattle.std.specs.Prelude.{if◌then◌else◌}
use Rattle.vm_tree_model.specs.Node.{Node}
use Rattle.vm_tree_model.specs.Layout.{Layout}
use Rattle.vm_bytes_form.specs.Strings.{rank, RANK_END}
use Rattle.vm_bytes_form.specs.Cuts.{key_words, pair_size}
use Rattle.vm_bytes_form.specs.Forms.{KeyEntry, ByteNode, room_taken, form_of, node_in}

-- a leaf's tag is 4, an inner node's 5
abbrev pub kind_of : ℕ → ℕ
kind_of tag = if tag == 4 then 2 else (if tag == 5 then 3 else 0)

abbrev pub high_rank : Option (List ℕ) → ℕ
high_rank None = RANK_END
high_rank (Some s) = rank s

-- a key's rank, with its value
abbrev pub ranked_entry : KeyEntry → ℕ × ℕ
ranked_entry e = (rank e.0, e.1)

-- the node with the ranks of its keys
abbrev pub ranked : ByteNode → Node
ranked n = record { tag = kind_of n.tag; level = n.level; low = rank n.low; high = high_rank n.high; pairs = map ranked_entry n.entries }

abbrev pub same_words : List ℕ → List ℕ → Bool
same_words [] [] = true
same_words [] (y ∷ ys) = false
same_words (x ∷ xs) [] = false
same_words (x ∷ xs) (y ∷ ys) = x == y && same_words xs ys

abbrev pub are_bytes : List ℕ → Bool
are_bytes [] = true
are_bytes (b ∷ s) = nat_lt b 256 && are_bytes s

abbrev pub is_string : List ℕ → Bool
is_string s = nat_le (length s) 64 && are_bytes s

abbrev pub is_high : Option (List ℕ) → Bool
is_high None = true
is_high (Some s) = is_string s && nat_le 1 (length s)

abbrev pub are_keys : List KeyEntry → Bool
are_keys [] = true
are_keys (e ∷ es) = is_string e.0 && are_keys es

-- the node fits on a page of 512 words
abbrev pub is_fitting : ByteNode → Bool
is_fitting n = nat_le (8 + room_taken n) 512 && is_string n.low && is_high n.high && are_keys n.entries

-- the words are those of the node that they are read as
abbrev pub bytes_clean : List ℕ → Bool
bytes_clean words = is_fitting (node_in words) && same_words words (form_of 512 (node_in words))

abbrev pub bytes_has_fences : ℕ → ℕ → List ℕ → Bool
bytes_has_fences low high words = rank (node_in words).low == low && high_rank (node_in words).high == high

abbrev pub bytes_has_form : ℕ → List ℕ → Bool
bytes_has_form level words = bytes_clean words && (node_in words).level == level &&
    (level == 0 || nat_le 1 (length (node_in words).entries))

abbrev pub bytes : Layout
bytes = record {
  words = 512;
  magic = 0x564D434259544531;
  key_end = RANK_END;
  node_of = λ words. ranked (node_in words);
  is_clean = bytes_clean;
  has_fences = bytes_has_fences;
  has_form = bytes_has_form;
  fence_size = λ k. if k == RANK_END then 0 else key_words k;
  pair_size = pair_size;
  room = 504;
  growth = 10;
  merge_room = 0;
  base = 261;
  node_weight = 100;
  excess_weight = 1;
}
