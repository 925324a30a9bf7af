-- What is read of any words has strings of at most 64 bytes for its keys and its fences.
use Rattle.std.proofs.Common.{◌≡◌, ℕ, zero, suc, ◌/◌, ◌%◌, ◌<◌, List, [], ◌∷◌, ◌++◌, get_or, take, drop, map, min}
use Rattle.std.proofs.Common.{Some, inl, inr, sym, subst, arith}
use Rattle.std.proofs.lemmas.Bool.{cases_eq}
use Rattle.std.proofs.lemmas.List.{length-take}
use Rattle.std.specs.Int.{w64, byte_at, bytes_high_first, to_be_bytes}
use Rattle.vm_page.specs.Bytes.{bytes_of_words}
use Rattle.vm_bytes_form.specs.Forms.{AreKeys, entry_at, node_in, string_at}
use Rattle.vm_bytes_form.specs.Strings.{AreBytes, IsString}
use Rattle.vm_bytes_node.proofs.HeaderLemmas.{high_none, high_some, low_is}

-- two lists of bytes, joined, are bytes
bytes_joined : (s t : List ℕ) → AreBytes s → AreBytes t → AreBytes (s ++ t)
bytes_joined [] t first then = then
bytes_joined (b ∷ s) t first then = (first.0, bytes_joined s t first.1 then)

-- the first of some bytes are bytes
bytes_taken : (n : ℕ) (s : List ℕ) → AreBytes s → AreBytes (take n s)
bytes_taken zero s all = tt
bytes_taken (suc n) [] all = tt
bytes_taken (suc n) (b ∷ s) all = (all.0, bytes_taken n s all.1)

-- a byte of a number is below 256
byte_below : (i w : ℕ) → byte_at i w < 256
byte_below zero w = omega arith
byte_below (suc i) w = omega arith

-- what a word is cut into are bytes
bytes_of_one : (k w : ℕ) → AreBytes (bytes_high_first k w)
bytes_of_one zero w = tt
bytes_of_one (suc k) w = (byte_below k w, bytes_of_one k w)

-- what words are cut into are bytes
bytes_of_all : (ws : List ℕ) → AreBytes (bytes_of_words ws)
bytes_of_all [] = tt
bytes_of_all (w ∷ ws) = bytes_joined (to_be_bytes w64 w) (bytes_of_words ws) (bytes_of_one 8 w) (bytes_of_all ws)

-- a slot of any words names a string
string_read : (words : List ℕ) (slot : ℕ) → IsString 64 (string_at words slot)
unfolding string_at
string_read words slot =
    let there : List ℕ = bytes_of_words (drop (slot / 256) words) in
    record {
      fits = omega (arith, length-take (min (slot % 256) 64) there);
      bytes = bytes_taken (min (slot % 256) 64) there (bytes_of_all (drop (slot / 256) words));
    }

-- the keys of slots are strings
keys_read : (words slots : List ℕ) → AreKeys (map (entry_at words) slots)
keys_read words [] = tt
keys_read words (slot ∷ slots) = (string_read words slot, keys_read words slots)

module _ (words : List ℕ) where
  -- the low fence is a string
  pub low_read : IsString 64 (node_in words).low
  low_read = subst (IsString 64) (sym (low_is words)) (string_read words (get_or words 3 0))

  -- each key is a string
  pub entries_read : AreKeys (node_in words).entries
  unfolding node_in
  entries_read = keys_read words (take (get_or words 1 0) (drop 8 words))

  -- the high fence is a string, where there is one
  pub high_read : (s : List ℕ) → (node_in words).high ≡ Some s → IsString 64 s
  high_read s is = elim (cases_eq (get_or words 4 0) 0) [
    | inl none ↦ absurd (let nothing = high_none words none in cc)
    | inr some ↦
        let there = high_some words some in
        let same : string_at words (get_or words 4 0) ≡ s = cc in
        subst (IsString 64) same (string_read words (get_or words 4 0))
  ]
