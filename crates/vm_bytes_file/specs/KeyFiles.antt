-- Page files whose nodes have byte keys: how such a file is known, and the one that holds nothing.
use Rattle.std.specs.Prelude.{◌==◌, ◌-◌, [], ◌∷◌, Bool, codes, List, None, replicate, ℕ}
use Rattle.std.specs.List.{starts_with}
use Rattle.vm_bytes_form.specs.Bytes.{bytes}
use Rattle.vm_bytes_form.specs.Forms.{ByteNode, form_of}

-- the file begins with the bytes "VMCBYTE1"
abbrev pub is_key_file : List ℕ → Bool
is_key_file file = starts_with (λ a b. a == b) file (codes "VMCBYTE1")

-- page 0 of a tree whose root is page 1, a leaf
abbrev pub first_page : List ℕ
first_page = bytes.magic ∷ 1 ∷ replicate 510 0

-- a leaf of all keys, with no pair
abbrev pub empty_leaf : ByteNode
empty_leaf = record { tag = 4; level = 0; low = []; high = None; entries = [] }

-- the pages of a file of so many that holds nothing: page 0, the leaf, and free pages
abbrev pub empty_pages : ℕ → List (List ℕ)
empty_pages pages = first_page ∷ form_of 512 empty_leaf ∷ replicate (pages - 2) (replicate 512 0)
