-- What an edit does to a node with byte keys: a pair is put or taken out, the node is cut in two, a root grows.
use Rattle.std.specs.Prelude.{ℕ, List, [], ◌∷◌, take, drop, Some, None}
use Rattle.vm_tree_model.specs.Layout.{cut}
use Rattle.vm_bytes_form.specs.Forms.{KeyEntry, ByteNode}
use Rattle.vm_bytes_form.specs.Bytes.{bytes}
use Rattle.vm_bytes_form.specs.KeyMap.{put_key, del_key, ranks_of}

-- with a value at a key
abbrev pub put_in : ByteNode → List ℕ → ℕ → ByteNode
put_in n key value = record n { entries = put_key n.entries key value }

-- without a key
abbrev pub del_in : ByteNode → List ℕ → ByteNode
del_in n key = record n { entries = del_key n.entries key }

-- how many entries stay at a split: the least number that have at least half of the sizes' sum
abbrev pub kept_at_split : List KeyEntry → ℕ
kept_at_split es = cut bytes (ranks_of es)

-- the entries that stay, below the separator, and those that go
abbrev pub lower_half : ByteNode → List ℕ → ByteNode
lower_half n separator = record n { high = Some separator; entries = take (kept_at_split n.entries) n.entries }

abbrev pub upper_half : ByteNode → List ℕ → ByteNode
upper_half n separator = record n { low = separator; entries = drop (kept_at_split n.entries) n.entries }

-- a root over two nodes, of which the right one begins at the separator
abbrev pub root_over : ℕ → ℕ → List ℕ → ℕ → ByteNode
root_over level left separator right = record {
  tag = 5;
  level = level;
  low = [];
  high = None;
  entries = ([], left) ∷ (separator, right)
      ∷ [];
}
