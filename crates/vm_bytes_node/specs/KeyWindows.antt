-- What a window shows of a node with byte keys.
use Rattle.std.specs.Prelude.{◌≡◌, zero, suc, ℕ, List, [], ◌∷◌, take, Option, Some, if◌then◌else◌}
use Rattle.vm_bytes_form.specs.Forms.{ByteNode, KeyEntry}
use Rattle.vm_bytes_form.specs.Strings.{before}

-- the entries from a key on
abbrev pub entries_from : List ℕ → List KeyEntry → List KeyEntry
entries_from start [] = []
entries_from start (e ∷ es) = if before e.0 start then entries_from start es else e ∷ entries_from start es

-- the key after so many entries, and the fence where there is none
abbrev pub key_after : List KeyEntry → ℕ → Option (List ℕ) → Option (List ℕ)
key_after [] most high = high
key_after (e ∷ es) zero high = Some e.0
key_after (e ∷ es) (suc most) high = key_after es most high

-- the first entries from the start on, `most` of them or all; no other one stands before the bound
pub record IsKeyWindow (n : ByteNode) (start : List ℕ) (most : ℕ) (shown : List KeyEntry) (bound : Option (List ℕ)) : Type 0 where
  pub shows : shown ≡ take most (entries_from start n.entries)
  pub ends : bound ≡ key_after (entries_from start n.entries) most n.high
