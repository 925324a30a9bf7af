-- What the loops over a host read and say.
use Rattle.std.specs.Prelude.{ℕ, ◌+◌, ◌-◌, ◌≤◌, ◌≡◌, List, ◌++◌, length, take, drop, Option, Some, None}
use Rattle.vm_io.specs.Shown.{Shown, SaidFront}

-- new is old with the next n bytes of the file behind it; none only at the file's end
pub record IsMore (shown : Shown) (name old new : List ℕ) (n : ℕ) : Type 0 where
  pub bytes : List ℕ
  pub file : shown.files name ≡ Some bytes
  pub enough : n ≤ length bytes - length old
  pub more : new ≡ old ++ take n (drop (length old) bytes)
  pub end : n ≡ 0 → length bytes ≤ length old

abbrev pub ReadsMore : Option Shown → List ℕ → List ℕ → List ℕ → ℕ → Type 0
ReadsMore None name old new n = Unit {0}
ReadsMore (Some shown) name old new n = IsMore shown name old new n

-- the file's bytes, but no more than one past the limit
pub record IsWholeFile (shown : Shown) (name : List ℕ) (limit : ℕ) (found : List ℕ) : Type 0 where
  pub bytes : List ℕ
  pub file : shown.files name ≡ Some bytes
  pub front : found ≡ take (limit + 1) bytes

-- where the host tells nothing, there are bytes of which these are so many
abbrev pub ReadsWhole : Option Shown → List ℕ → ℕ → List ℕ → Type 0
ReadsWhole None name limit found = (bytes : List ℕ) × (found ≡ take (limit + 1) bytes)
ReadsWhole (Some shown) name limit found = IsWholeFile shown name limit found

-- all that is known of the file begins with these bytes
abbrev pub IsFront : Option Shown → List ℕ → List ℕ → Type 0
IsFront None name found = Unit {0}
IsFront (Some shown) name found = (bytes : List ℕ) → shown.files name ≡ Some bytes → found ≡ take (length found) bytes

-- a front of the bytes was said, and nothing else
pub record SaidSome (old new : Option Shown) (bytes : List ℕ) : Type 0 where
  pub count : ℕ
  pub front : SaidFront old new bytes count
