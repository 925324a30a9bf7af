-- The words of a node that is being written.
use Rattle.std.specs.Prelude.{ℕ, ◌≡◌, ◌+◌, ◌≤◌, List, [], ◌++◌, length, take, drop, Option, IfSome}
use Rattle.vm_bytes_form.specs.Forms.{KeyEntry, ByteNode, IsFitting, fence_blocks, form_of, heap}

-- the words with a block of them written over from a place on
abbrev pub over : List ℕ → ℕ → List ℕ → List ℕ
over words at block = take at words ++ (block ++ drop (at + length block) words)

-- the entries from one place on and before another
abbrev pub entries_between : ℕ → ℕ → List KeyEntry → List KeyEntry
entries_between from upto es = drop from (take upto es)

-- a node with no pair
abbrev pub empty_node : ℕ → ℕ → List ℕ → Option (List ℕ) → ByteNode
empty_node tag level low high = record { tag = tag; level = level; low = low; high = high; entries = [] }

-- the node with these entries behind its own
abbrev pub with_more : ByteNode → List KeyEntry → ByteNode
with_more n es = record n { entries = n.entries ++ es }

-- the node with other entries in place of those from one place on and before another
abbrev pub spliced : ByteNode → ℕ → ℕ → List KeyEntry → ByteNode
spliced n from upto es = record n { entries = take from n.entries ++ (es ++ drop upto n.entries) }

-- a high fence is no empty string
abbrev pub HasNoEmptyHigh : ByteNode → Type 0
HasNoEmptyHigh n = IfSome n.high (λ high. 1 ≤ length high)

-- a draft's pairs have their slots, and its blocks their words, on the page
pub record IsInPage (count end : ℕ) : Type 0 where
  pub slots : count ≤ 504
  pub blocks : end ≤ 512

-- The words are those of a node that fits; so many pairs were put, and the lowest block stands at the end
pub record IsDraft (words : List ℕ) (count end : ℕ) (n : ByteNode) : Type 0 where
  pub fits : IsFitting 512 n
  pub form : words ≡ form_of 512 n
  pub count_is : count ≡ length n.entries
  pub end_is : end + (length (heap n.entries) + length (fence_blocks n)) ≡ 512
