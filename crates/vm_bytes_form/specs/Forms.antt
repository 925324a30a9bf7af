-- The words of a node with byte keys: one function of its kind, level, fences and pairs; and what any words are read as.
use Rattle.std.specs.Prelude.{◌≡◌, ℕ, zero, suc, ◌+◌, ◌-◌, ◌*◌, ◌/◌, ◌%◌, ◌≤◌, ◌==◌, List, [], ◌∷◌, ◌++◌, length, take, drop, map, min}
use Rattle.std.specs.Prelude.{replicate, slice_index, Option, Some, None, if◌then◌else◌}
use Rattle.std.specs.Int.{w64, from_be_bytes}
use Rattle.vm_page.specs.Bytes.{bytes_of_words}
use Rattle.vm_bytes_form.specs.Strings.{IsString}
use Rattle.vm_bytes_form.specs.Cuts.{words_for}

-- a key with its value
abbrev pub KeyEntry : Type 0
KeyEntry = List ℕ × ℕ

-- A node whose keys are byte strings. The tag is 4 for a leaf, 5 for an inner node; there may be no high fence
pub record ByteNode : Type 0 where
  pub tag : ℕ
  pub level : ℕ
  pub low : List ℕ
  pub high : Option (List ℕ)
  pub entries : List KeyEntry

-- n bytes of the string, zeros behind its end
abbrev pub padded : ℕ → List ℕ → List ℕ
padded zero s = []
padded (suc n) [] = 0 ∷ padded n []
padded (suc n) (b ∷ s) = b ∷ padded n s

-- the string in n words, the greatest byte first
abbrev pub string_words : ℕ → List ℕ → List ℕ
string_words zero s = []
string_words (suc n) s = from_be_bytes w64 (padded 8 s) ∷ string_words n (drop 8 s)

abbrev pub key_block : List ℕ → List ℕ
key_block s = string_words (words_for (length s)) s

abbrev pub fence_block : Option (List ℕ) → List ℕ
fence_block None = []
fence_block (Some s) = key_block s

-- a key and its value
abbrev pub entry_block : KeyEntry → List ℕ
entry_block e = key_block e.0 ++ e.1 ∷ []

-- the blocks of the entries, packed down: the first one stands last
abbrev pub heap : List KeyEntry → List ℕ
heap [] = []
heap (e ∷ es) = heap es ++ entry_block e

-- the slots of the entries, whose blocks stand below the place `end`
abbrev pub slots : ℕ → List KeyEntry → List ℕ
slots end [] = []
slots end (e ∷ es) = ((end - length (entry_block e)) * 256 + length e.0) ∷ slots (end - length (entry_block e)) es

-- the slot of a fence whose block stands below `end`; 0 for an empty one
abbrev pub fence_slot : ℕ → List ℕ → ℕ
fence_slot end [] = 0
fence_slot end (b ∷ s) = (end - length (key_block (b ∷ s))) * 256 + length (b ∷ s)

abbrev pub high_slot : ℕ → Option (List ℕ) → ℕ
high_slot end None = 0
high_slot end (Some s) = fence_slot end s

-- the words from the heap's end up to the page's end: high fence, low fence
abbrev pub fence_blocks : ByteNode → List ℕ
fence_blocks n = fence_block n.high ++ key_block n.low

-- how many words of the room are taken
abbrev pub room_taken : ByteNode → ℕ
room_taken n = length n.entries + length (heap n.entries) + length (fence_blocks n)

-- the words of a node on a page of so many
unfoldable pub form_of : ℕ → ByteNode → List ℕ
form_of size n =
    n.tag ∷ length n.entries ∷ n.level ∷ fence_slot size n.low ∷ high_slot (size - length (key_block n.low)) n.high ∷ 0 ∷ 0 ∷ 0
    ∷ slots (size - length (fence_blocks n)) n.entries ++ replicate (size - 8 - room_taken n) 0 ++ heap n.entries ++ fence_blocks n

-- the string that a slot names, in any words
unfoldable pub string_at : List ℕ → ℕ → List ℕ
string_at words slot = take (min (slot % 256) 64) (bytes_of_words (drop (slot / 256) words))

-- the entry that a slot names
abbrev pub entry_at : List ℕ → ℕ → KeyEntry
entry_at words slot = (string_at words slot, slice_index words (slot / 256 + words_for (slot % 256)))

-- what any words mean: a count above the places for slots is read as those
unfoldable pub node_in : List ℕ → ByteNode
node_in words = record {
  tag = slice_index words 0;
  level = slice_index words 2;
  low = string_at words (slice_index words 3);
  high = if slice_index words 4 == 0 then None else Some (string_at words (slice_index words 4));
  entries = map (entry_at words) (take (slice_index words 1) (drop 8 words));
}

-- each key is a string of at most 64 bytes
abbrev pub AreKeys : List KeyEntry → Type 0
AreKeys [] = Unit {0}
AreKeys (e ∷ es) = IsString 64 e.0 × AreKeys es

-- A node that fits on a page of so many words: strings of at most 64 bytes, a high fence that is not empty
pub record IsFitting (size : ℕ) (n : ByteNode) : Type 0 where
  pub room : 8 + room_taken n ≤ size
  pub low : IsString 64 n.low
  pub high : (s : List ℕ) → n.high ≡ Some s → IsString 64 s × (1 ≤ length s)
  pub keys : AreKeys n.entries
