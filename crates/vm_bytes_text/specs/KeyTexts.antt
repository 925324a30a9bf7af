-- Byte keys as text, and the lines of rows that have such keys.
use Rattle.std.specs.Fmt.{decimal}
use Rattle.std.specs.List.{flat_map}
use Rattle.std.specs.Prelude.{[], ◌++◌, ◌∷◌, codes, List, ℕ}
use Rattle.hex.specs.Hex.{encode_lower}
use Rattle.vm_map.specs.Map.{Pairs}
use Rattle.vm_bytes_form.specs.Strings.{string_of}

-- two hexadecimal digits for each byte, or `-` for no byte
abbrev pub key_text : List ℕ → List ℕ
key_text [] = 45 ∷ []
key_text (b ∷ s) = encode_lower (b ∷ s)

-- `row K V`, where K is this text
abbrev pub line_with : List ℕ → ℕ → List ℕ
line_with key value = codes "row " ++ key ++ 32 ∷ decimal value ++ 10 ∷ []

-- the line of a key's rank and its value
abbrev pub key_row_line : ℕ × ℕ → List ℕ
key_row_line row = line_with (key_text (string_of row.0)) row.1

-- the lines of the pairs of a map over ranks
abbrev pub key_rows_text : Pairs → List ℕ
key_rows_text = flat_map key_row_line
