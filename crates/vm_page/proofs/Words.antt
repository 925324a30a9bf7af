-- Words and their bytes, both ways.
use Rattle.std.proofs.Common.{◌≡◌, ℕ, zero, suc, ◌+◌, ◌*◌, ◌/◌, ◌^◌, ◌<◌, ◌≤◌, List, [], ◌∷◌, ◌++◌, length, get_or}
use Rattle.std.proofs.Common.{set, take, drop, refl, arith, ap, sym, ◌∙◌, length-append, length-drop, take-add}
use Rattle.std.proofs.Common.{add-one}
use Rattle.std.proofs.lemmas.List.{append_assoc, append-nil, drop-append-le, drop-drop, get_or-drop, length-take-le}
use Rattle.std.proofs.lemmas.List.{take-append-le, take_all, take_more, take_more_set}
use Rattle.std.proofs.lemmas.Nat.{from_be_bytes-to_be_bytes_8, be_bytes_8}
use Rattle.std.proofs.lemmas.Slice.{take-put_mid}
use Rattle.std.specs.Int.{w64, to_be_bytes, from_be_bytes}
use borrow.Rule.Slice.PartMut.{put_mid}
use Rattle.vm_page.specs.Bytes.{bytes_of_words, word_in, words_in, words_of_bytes}

pub bytes_of-append : (xs ys : List ℕ) → bytes_of_words (xs ++ ys) ≡ bytes_of_words xs ++ bytes_of_words ys
bytes_of-append [] ys = refl
bytes_of-append (x ∷ xs) ys = ap (λ l. to_be_bytes w64 x ++ l) (bytes_of-append xs ys)
    ∙ sym (append_assoc (to_be_bytes w64 x) (bytes_of_words xs) (bytes_of_words ys))

-- one word's bytes
pub bytes_of-one : (w : ℕ) → bytes_of_words (w ∷ []) ≡ to_be_bytes w64 w
bytes_of-one w = append-nil (to_be_bytes w64 w)

pub length-bytes_of : (ws : List ℕ) → length (bytes_of_words ws) ≡ 8 * length ws
length-bytes_of [] = refl
length-bytes_of (w ∷ ws) = omega (arith, length-append (to_be_bytes w64 w) (bytes_of_words ws), length-bytes_of ws)

-- word i of the words' bytes is word i
word_in-of : (ws : List ℕ) (i : ℕ) → ((k : ℕ) → get_or ws k 0 < 2 ^ 64) → i < length ws → word_in (bytes_of_words ws) i ≡ get_or ws i 0
word_in-of [] i below lt = absurd (omega arith)
word_in-of (w ∷ ws) zero below lt =
    let front : take 8 (to_be_bytes w64 w ++ bytes_of_words ws) ≡ to_be_bytes w64 w =
    take-append-le 8 (to_be_bytes w64 w) (bytes_of_words ws) (omega arith) ∙ take_all 8 (to_be_bytes w64 w)
    (omega arith) in
    ap (from_be_bytes w64) front ∙ from_be_bytes-to_be_bytes_8 w (below 0)
word_in-of (w ∷ ws) (suc i) below lt =
    let eight : 8 + 8 * i ≡ 8 * suc i = omega arith in
    let past : drop 8 (to_be_bytes w64 w ++ bytes_of_words ws) ≡ bytes_of_words ws =
    drop-append-le 8 (to_be_bytes w64 w) (bytes_of_words ws) (omega arith) in
    let moved : drop (8 * suc i) (bytes_of_words (w ∷ ws)) ≡ drop (8 * i) (bytes_of_words ws) =
    rw (← eight) (sym (drop-drop (8 * i) 8 (bytes_of_words (w ∷ ws))) ∙ ap (drop (8 * i)) past) in
    ap (λ l. from_be_bytes w64 (take 8 l)) moved ∙ word_in-of ws i (λ k. below (suc k)) (omega (arith, lt))

words_in-of : (ws : List ℕ) (n : ℕ) → ((k : ℕ) → get_or ws k 0 < 2 ^ 64) → n ≤ length ws → words_in (bytes_of_words ws) n ≡ take n ws
words_in-of ws zero below le = refl
words_in-of ws (suc n) below le =
    let at : n + 1 ≡ suc n = omega arith in
    let more : take (suc n) ws ≡ take n ws ++ get_or ws n 0 ∷ [] = rw (← at) (take_more ws n 0 (omega (arith, le))) in
    rw (words_in-of ws n below (omega (arith, le)), word_in-of ws n below (omega (arith, le))) (sym more)

-- the bytes of words, read back
pub words_of-bytes_of : (ws : List ℕ) → ((k : ℕ) → get_or ws k 0 < 2 ^ 64) → words_of_bytes (bytes_of_words ws) ≡ ws
words_of-bytes_of ws below =
    let count : length (bytes_of_words ws) / 8 ≡ length ws = omega (arith, length-bytes_of ws) in
    rw count (words_in-of ws (length ws) below (omega arith) ∙ take_all (length ws) ws (omega arith))

-- the bytes of a word read are the bytes that it was read from
bytes_of-word_in : (bytes : List ℕ) (i : ℕ) → ((k : ℕ) → get_or bytes k 0 < 256) → 8 * i + 8 ≤ length bytes
    → to_be_bytes w64 (word_in bytes i) ≡ take 8 (drop (8 * i) bytes)
bytes_of-word_in bytes i below le =
    be_bytes_8 (take 8 (drop (8 * i) bytes)) (word_in bytes i)
    (length-take-le 8 (drop (8 * i) bytes) (omega (arith, length-drop (8 * i) bytes))) each refl
  where
    each : (k : ℕ) → get_or (take 8 (drop (8 * i) bytes)) k 0 < 256
    each k = first_bytes-below 8 (drop (8 * i) bytes) k (λ j. rw (get_or-drop (8 * i) bytes j 0) (below (8 * i + j)))
      where
        first_bytes-below : (n : ℕ) (l : List ℕ) (k : ℕ) → ((j : ℕ) → get_or l j 0 < 256) → get_or (take n l) k 0 < 256
        first_bytes-below zero l k all = omega arith
        first_bytes-below (suc n) [] k all = omega arith
        first_bytes-below (suc n) (x ∷ xs) zero all = all 0
        first_bytes-below (suc n) (x ∷ xs) (suc k) all = first_bytes-below n xs k (λ j. all (suc j))

pub bytes_of-words_in : (bytes : List ℕ) (n : ℕ) → ((k : ℕ) → get_or bytes k 0 < 256) → 8 * n ≤ length bytes
    → bytes_of_words (words_in bytes n) ≡ take (8 * n) bytes
bytes_of-words_in bytes zero below le = refl
bytes_of-words_in bytes (suc n) below le =
    let at : 8 * n + 8 ≡ 8 * suc n = omega arith in
    let split : take (8 * suc n) bytes ≡ take (8 * n) bytes ++ take 8 (drop (8 * n) bytes) = rw (← at) (take-add (8 * n) 8 bytes) in
    bytes_of-append (words_in bytes n) (word_in bytes n ∷ []) ∙ ap (λ l. l ++ bytes_of_words (word_in bytes n ∷ []))
    (bytes_of-words_in bytes n below (omega (arith, le)))
    ∙ ap (λ l. take (8 * n) bytes ++ l) (bytes_of-one (word_in bytes n) ∙ bytes_of-word_in bytes n below (omega (arith, le))) ∙ sym split

-- the words of bytes, written again
pub bytes_of-words_of : (bytes : List ℕ) (n : ℕ) → ((k : ℕ) → get_or bytes k 0 < 256) → length bytes ≡ 8 * n
    → bytes_of_words (words_of_bytes bytes) ≡ bytes
bytes_of-words_of bytes n below long =
    let count : length bytes / 8 ≡ n = omega (arith, long) in
    rw count (bytes_of-words_in bytes n below (omega (arith, long)) ∙ take_all (8 * n) bytes (omega (arith, long)))

-- one word more is written
pub written_more : (out words : List ℕ) (i k : ℕ) → take (8 * i) out ≡ bytes_of_words (take i words) → 8 * i ≤ length out → i < length words
    → take (8 * (i + 1)) (put_mid (8 * i) k out (to_be_bytes w64 (get_or words i 0))) ≡ bytes_of_words (take (i + 1) words)
written_more out words i k held fits lt =
    let front : take (8 * (i + 1)) (put_mid (8 * i) k out (to_be_bytes w64 (get_or words i 0))) ≡ take (8 * i)
    out ++ to_be_bytes w64 (get_or words i 0) = take-put_mid (8 * i) k out (to_be_bytes w64 (get_or words i 0))
    (8 * (i + 1)) (omega arith) fits in
    front ∙ ap (λ l. l ++ to_be_bytes w64 (get_or words i 0)) held
    ∙ ap (λ l. bytes_of_words (take i words) ++ l) (sym (bytes_of-one (get_or words i 0)))
    ∙ sym (bytes_of-append (take i words) (get_or words i 0 ∷ [])) ∙ ap bytes_of_words
    (sym (take_more words i 0 lt))

-- one word more is read
pub read_more : (words bytes : List ℕ) (i w : ℕ) → take i words ≡ words_in bytes i → i < length words
    → w ≡ word_in bytes i → take (i + 1) (set words i w) ≡ words_in bytes (i + 1)
read_more words bytes i w held lt is = take_more_set words i w lt ∙ rw (held, is, add-one) refl

-- all words are written
pub written_all : (out words : List ℕ) (i : ℕ) → take (8 * i) out ≡ bytes_of_words (take i words) → length out ≤ 8 * i
    → length words ≤ i → out ≡ bytes_of_words words
written_all out words i held whole all = sym (take_all (8 * i) out whole) ∙ held ∙ ap bytes_of_words (take_all i words all)

-- all words are read
pub read_all : (words bytes : List ℕ) (i : ℕ) → take i words ≡ words_in bytes i → length words ≤ i
    → length bytes ≡ 8 * i → words ≡ words_of_bytes bytes
read_all words bytes i held all long =
    let count : length bytes / 8 ≡ i = omega (arith, long) in
    sym (take_all i words all) ∙ held ∙ rw count refl
