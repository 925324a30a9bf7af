-- What a host shows of its files and of standard output, where it tells them.
use Rattle.std.specs.Prelude.{ℕ, ◌-◌, ◌≤◌, ◌≡◌, ◌≢◌, ◌⊎◌, List, ◌++◌, length, take, drop, Result, Ok, Err, Option, Some, None}

pub record Shown : Type 0 where
  -- the bytes of the file with a name, and None where there is no such file
  pub files : List ℕ → Option (List ℕ)
  -- the bytes said so far
  pub said : List ℕ

-- n bytes of the file from offset at on stand at the front of the buffer; none only at the end
pub record IsTaken (shown : Shown) (name : List ℕ) (at : ℕ) (before after : List ℕ) (n : ℕ) : Type 0 where
  pub bytes : List ℕ
  pub file : shown.files name ≡ Some bytes
  pub enough : n ≤ length bytes - at
  pub copied : after ≡ take n (drop at bytes) ++ drop n before
  pub end : n ≡ 0 → (length before ≡ 0) ⊎ (length bytes ≤ at)

-- what a take that answers has put into the buffer, where the host tells
abbrev pub Takes : {E : Type 0} → Option Shown → List ℕ → ℕ → List ℕ → List ℕ → Result ℕ E → Type 0
Takes None name at before after result = Unit {0}
Takes (Some shown) name at before after (Ok n) = IsTaken shown name at before after n
Takes (Some shown) name at before after (Err e) = Unit {0}

-- the file has just these bytes, and nothing else changed
pub record HoldsJust (old new : Shown) (name bytes : List ℕ) : Type 0 where
  pub file : new.files name ≡ Some bytes
  pub others : (other : List ℕ) → other ≢ name → new.files other ≡ old.files other
  pub said : new.said ≡ old.said

-- the same of what a host shows, where it tells
abbrev pub Holds : Option Shown → Option Shown → List ℕ → List ℕ → Type 0
Holds None new name bytes = new ≡ None
Holds (Some old) new name bytes = (after : Shown) × (new ≡ Some after) × HoldsJust old after name bytes

-- a file that is replaced holds just the bytes; a call that fails changes nothing
abbrev pub Replaces : {T E : Type 0} → Option Shown → Option Shown → List ℕ → List ℕ → Result T E → Type 0
Replaces old new name bytes (Ok done) = Holds old new name bytes
Replaces old new name bytes (Err e) = new ≡ old

-- the same host with more said
abbrev pub say_more : Shown → List ℕ → Shown
say_more shown piece = record shown { said = shown.said ++ piece }

-- the first n bytes of the piece were said
abbrev pub SaidFront : Option Shown → Option Shown → List ℕ → ℕ → Type 0
SaidFront None new piece n = new ≡ None
SaidFront (Some old) new piece n = new ≡ Some (say_more old (take n piece))

-- a say adds a front of the piece to what was said; one that fails changes nothing
abbrev pub Says : {E : Type 0} → Option Shown → Option Shown → List ℕ → Result ℕ E → Type 0
Says old new piece (Ok n) = SaidFront old new piece n
Says old new piece (Err e) = new ≡ old
