-- What the readers of a key, and of a key and a number, answer.
use Rattle.std.specs.Fmt.{decimal}
use Rattle.std.specs.Prelude.{◌++◌, ◌<◌, ◌^◌, ◌∷◌, ◌≡◌, ◌≢◌, List, None, Option, Some, ℕ}
use Rattle.vm_bytes_form.specs.Strings.{IsString}
use Rattle.vm_bytes_text.specs.KeyTexts.{key_text}

abbrev pub ReadsKey : List ℕ → Option (List ℕ) → Type 0
ReadsKey bytes (Some key) = IsString 64 key × (bytes ≡ key_text key)
ReadsKey bytes None = (key : List ℕ) → IsString 64 key → bytes ≢ key_text key

-- a key and a number with a space between them
abbrev pub ReadsKeyPair : List ℕ → Option (List ℕ × ℕ) → Type 0
ReadsKeyPair bytes (Some pair) = IsString 64 pair.0 × (pair.1 < 2 ^ 64) × (bytes ≡ key_text pair.0 ++ 32 ∷ decimal pair.1)
ReadsKeyPair bytes None = (key : List ℕ) (number : ℕ) → IsString 64 key → number < 2 ^ 64 → bytes ≢ key_text key ++ 32 ∷ decimal number
