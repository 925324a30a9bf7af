-- What holds of a file's bytes: of those that the host tells, and where it tells none, of some bytes.
use Rattle.std.specs.Prelude.{◌≡◌, List, None, Option, Some, ℕ}
use Rattle.vm_io.specs.Shown.{Shown}

-- the file with this name has bytes of which P holds; where the host tells nothing, there are bytes of which P holds
abbrev pub HasFile : Option Shown → List ℕ → (List ℕ → Type 0) → Type 0
HasFile None name P = (bytes : List ℕ) × P bytes
HasFile (Some shown) name P = (bytes : List ℕ) × (shown.files name ≡ Some bytes) × P bytes
