-- The bytes of words: eight for each, the greatest byte first.
use Rattle.std.specs.Prelude.{ℕ, zero, suc, ◌*◌, ◌/◌, List, [], ◌∷◌, ◌++◌, length, take, drop}
use Rattle.std.specs.Int.{w64, to_be_bytes, from_be_bytes}

-- the eight bytes of each word, in the words' order
abbrev pub bytes_of_words : List ℕ → List ℕ
bytes_of_words [] = []
bytes_of_words (w ∷ ws) = to_be_bytes w64 w ++ bytes_of_words ws

-- word i: the number whose bytes are the eight from 8 * i on
abbrev pub word_in : List ℕ → ℕ → ℕ
word_in bytes i = from_be_bytes w64 (take 8 (drop (8 * i) bytes))

-- the first n words
abbrev pub words_in : List ℕ → ℕ → List ℕ
words_in bytes zero = []
words_in bytes (suc n) = words_in bytes n ++ word_in bytes n ∷ []

-- all words
abbrev pub words_of_bytes : List ℕ → List ℕ
words_of_bytes bytes = words_in bytes (length bytes / 8)
