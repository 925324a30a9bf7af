-- What the readers of parts of an event line answer.
use Rattle.std.specs.Prelude.{[], ◌<◌, ◌^◌, ◌∷◌, ◌≡◌, ◌≢◌, ◌≤◌, length, List, None, Option, Some, take, ℕ}
use Rattle.vm_script.specs.declared.event_line.FieldKind.{FieldKind}
use Rattle.vm_script.specs.declared.event_line.FieldKind.TheVariants.{Actor, Bundle, Count, Frame, Page, Place, Spare, State, Word}

-- the bytes spell the value that is answered, or none that they could
abbrev pub ReadsAs : {X : Type 0} → (X → Type 0) → (X → List ℕ) → List ℕ → Option X → Type 0
ReadsAs Is text bytes (Some x) = Is x × (bytes ≡ text x)
ReadsAs {X = X} Is text bytes None = (x : X) → Is x → bytes ≢ text x

-- four numbers, of which a line uses as many as it has kinds
abbrev pub Four : Type 0
Four = ℕ × ℕ × ℕ × ℕ

-- as many of four numbers as there are kinds
abbrev pub used : List FieldKind → Four → List ℕ
used kinds four = take (length kinds) (four.0 ∷ four.1 ∷ four.2 ∷ four.3 ∷ [])

abbrev pub used_of : List FieldKind → Option Four → Option (List ℕ)
used_of kinds (Some four) = Some (used kinds four)
used_of kinds None = None

-- a number of this kind fits 32 bits
abbrev pub IsNarrow : FieldKind → ℕ → Type 0
IsNarrow Word n = Unit {0}
IsNarrow State n = Unit {0}
IsNarrow Actor n = n < 2 ^ 32
IsNarrow Page n = n < 2 ^ 32
IsNarrow Frame n = n < 2 ^ 32
IsNarrow Place n = n < 2 ^ 32
IsNarrow Bundle n = n < 2 ^ 32
IsNarrow Spare n = n < 2 ^ 32
IsNarrow Count n = n < 2 ^ 32

abbrev pub AreNarrow : List FieldKind → List ℕ → Type 0
AreNarrow (kind ∷ kinds) (value ∷ values) = IsNarrow kind value × AreNarrow kinds values
AreNarrow _ _ = Unit {0}

-- the state word of so many shares
pub record IsShareCount (shares : ℕ) : Type 0 where
  pub some : 1 ≤ shares
  pub few : shares ≤ 252

-- two numbers that fit 32 bits
abbrev pub AreSmall : ℕ × ℕ → Type 0
AreSmall pair = (pair.0 < 2 ^ 32) × (pair.1 < 2 ^ 32)
