-- Nodes with byte keys are a layout.
use Rattle.std.proofs.Common.{◌≡◌, ◌≢◌, ◌⊎◌, inl, inr, ℕ, ◌+◌, ◌<◌, ◌≤◌, List, [], ◌∷◌, length, get_or, map, Option, Some, None, Bool, true}
use Rattle.std.proofs.Common.{false, eqb, ltb, leb, ◌==◌, ◌||◌, if◌then◌else◌, refl, sym, ap, ◌∙◌, arith, length-append}
use Rattle.std.proofs.lemmas.Bool.{and_parts, and_from, eqb-true, eq-eqb, leb-true, le-leb, ltb-true, or_left, or_right}
use Rattle.std.proofs.lemmas.Bool.Decides.{nat_tests}
use Rattle.std.proofs.lemmas.List.{length-map}
use Rattle.vm_tree_model.specs.Node.{Node}
use Rattle.vm_tree_model.specs.Layout.{IsLayout, PaysForSplit, pairs_size, size}
use Rattle.vm_bytes_form.specs.Strings.{AreBytes, IsString, rank, RANK_END}
use Rattle.vm_bytes_form.specs.Cuts.{words_for, key_words, pair_size}
use Rattle.vm_bytes_form.specs.Forms.{KeyEntry, ByteNode, key_block, fence_block, entry_block, heap, room_taken, form_of, node_in, AreKeys}
use Rattle.vm_bytes_form.specs.Forms.{IsFitting}
use Rattle.vm_bytes_form.specs.Bytes.{kind_of, high_rank, ranked_entry, ranked, same_words, are_bytes, is_string, is_high, are_keys}
use Rattle.vm_bytes_form.specs.Bytes.{is_fitting, bytes_clean, bytes_has_fences, bytes_has_form, bytes}
use Rattle.vm_bytes_form.proofs.Ranks.{rank-below, string_of_rank}
use Rattle.vm_bytes_form.proofs.Halves.{key_words-few, pays}
use Rattle.vm_bytes_form.proofs.RoundTrip.{length_form, length-string_words}

pub same-tells : (a b : List ℕ) → same_words a b ≡ true → a ≡ b
same-tells [] [] is = refl
same-tells [] (y ∷ ys) is = absurd (cc)
same-tells (x ∷ xs) [] is = absurd (cc)
same-tells (x ∷ xs) (y ∷ ys) is =
    let (here, rest) = and_parts (eqb x y) (same_words xs ys) is in
    let first : x ≡ y = eqb-true x y here in
    let more = same-tells xs ys rest in
    λ i. first i ∷ more i

bytes-tell : (s : List ℕ) → are_bytes s ≡ true → AreBytes s
bytes-tell [] is = tt
bytes-tell (b ∷ s) is = let (here, rest) = and_parts (ltb b 256) (are_bytes s) is in (ltb-true b 256 here, bytes-tell s rest)

string-tells : (s : List ℕ) → is_string s ≡ true → IsString 64 s
string-tells s is = let (fits, each) = and_parts (leb (length s) 64) (are_bytes s) is in
    record { fits = leb-true (length s) 64 fits; bytes = bytes-tell s each }

keys-tell : (es : List KeyEntry) → are_keys es ≡ true → AreKeys es
keys-tell [] is = tt
keys-tell (e ∷ es) is = let (here, rest) = and_parts (is_string e.0) (are_keys es) is in (string-tells e.0 here, keys-tell es rest)

high-tells : (high : Option (List ℕ)) → is_high high ≡ true → (s : List ℕ) → high ≡ Some s → IsString 64 s × (1 ≤ length s)
high-tells None is s some = absurd (cc)
high-tells (Some t) is s some =
    let (here, long) = and_parts (is_string t) (leb 1 (length t)) is in
    let same : t ≡ s = cc in
    rw (← same) (string-tells t here, leb-true 1 (length t) long)

pub fitting-tells : (n : ByteNode) → is_fitting n ≡ true → IsFitting 512 n
fitting-tells n is =
    let (a, keys) = and_parts _ (are_keys n.entries) is in
    let (b, high) = and_parts _ (is_high n.high) a in
    let (room, low) = and_parts (leb (8 + room_taken n) 512) (is_string n.low) b in
    record {
      room = leb-true (8 + room_taken n) 512 room;
      low = string-tells n.low low;
      high = high-tells n.high high;
      keys = keys-tell n.entries keys;
    }

-- the words of a key, by its rank
pub key_words-are : (s : List ℕ) → IsString 64 s → key_words (rank s) ≡ length (key_block s)
key_words-are s is = ap (λ (t : List ℕ). words_for (length t)) (string_of_rank 64 s is.fits is.bytes)
    ∙ sym (length-string_words (words_for (length s)) s)

rank-is_below : (s : List ℕ) → IsString 64 s → rank s < RANK_END
rank-is_below s is = rank-below 64 s is.bytes

not_end : (k : ℕ) → k < RANK_END → eqb k RANK_END ≡ false
not_end k lt = grind (arith, nat_tests, lt)

fence-of : (k : ℕ) → ℕ
fence-of k = if k == RANK_END then 0 else key_words k

fence_words : (s : List ℕ) → IsString 64 s → (if rank s == RANK_END then 0 else key_words (rank s)) ≡ length (key_block s)
fence_words s is = rw (not_end (rank s) (rank-is_below s is)) (key_words-are s is)

high_words : (high : Option (List ℕ)) → ((s : List ℕ) → high ≡ Some s → IsString 64 s × (1 ≤ length s))
    → (if high_rank high == RANK_END then 0 else key_words (high_rank high)) ≡ length (fence_block high)
high_words None each = refl
high_words (Some s) each = fence_words s (each s refl).0

pairs_words : (es : List KeyEntry) → AreKeys es → pairs_size pair_size (map ranked_entry es) ≡ length es + length (heap es)
pairs_words [] keys = refl
pairs_words (e ∷ es) keys = omega (
  arith,
  pairs_words es keys.1,
  key_words-are e.0 keys.0,
  length-append (heap es) (entry_block e),
  length-append (key_block e.0) (e.1 ∷ []),
)

-- the node's size is what its words take
pub size-taken : (n : ByteNode) → IsString 64 n.low → ((s : List ℕ) → n.high ≡ Some s → IsString 64 s × (1 ≤ length s)) → AreKeys n.entries
    → size bytes (ranked n) ≡ room_taken n
size-taken n low high keys = omega (
  arith,
  pairs_words n.entries keys,
  fence_words n.low low,
  high_words n.high high,
  length-append (fence_block n.high) (key_block n.low),
)

module _ (w : List ℕ) (clean : bytes_clean w ≡ true) where
  fits : IsFitting 512 (node_in w)
  fits = fitting-tells (node_in w) (and_parts (is_fitting (node_in w)) (same_words w (form_of 512 (node_in w))) clean).0

  same : w ≡ form_of 512 (node_in w)
  same = same-tells w (form_of 512 (node_in w)) (and_parts (is_fitting (node_in w)) (same_words w (form_of 512 (node_in w))) clean).1

  clean_length : length w ≡ 512
  clean_length = ap length same ∙ length_form 512 (node_in w) fits

  high_below : (high : Option (List ℕ)) → ((s : List ℕ) → high ≡ Some s → IsString 64 s × (1 ≤ length s)) → high_rank high ≤ RANK_END
  high_below None each = at_most RANK_END
    where
      at_most : (k : ℕ) → k ≤ k
      at_most k = omega arith
  high_below (Some s) each = let below = rank-is_below s (each s refl).0 in omega (arith, below)

  clean_fits : size bytes (ranked (node_in w)) ≤ 504
  clean_fits = omega (arith, size-taken (node_in w) fits.low fits.high fits.keys, fits.room)

tag_none : (t : ℕ) → t ≢ 4 → t ≢ 5 → kind_of t ≡ 0
tag_none t four five = grind (arith, nat_tests, four, five)

fence-few : (k : ℕ) → (if k == RANK_END then 0 else key_words k) ≤ 8
fence-few k = go (eqb k RANK_END)
  where
    go : (b : Bool) → (if b then 0 else key_words k) ≤ 8
    go true = omega arith
    go false = key_words-few k

passes : (w : List ℕ) (level low high : ℕ) → bytes_clean w ≡ true → (node_in w).level ≡ level → rank (node_in w).low ≡ low
    → high_rank (node_in w).high ≡ high
    → (level ≡ 0) ⊎ (1 ≤ length (map ranked_entry (node_in w).entries))
    → (bytes_has_fences low high w ≡ true) × (bytes_has_form level w ≡ true)
passes w level low high clean at from upto some =
    let pair : (eqb level 0 || leb 1 (length (node_in w).entries)) ≡ true = elim some [
      | inl bottom ↦ or_left _ _ (eq-eqb _ _ bottom)
      | inr one ↦ or_right (eqb level 0) _ (le-leb _ _ (omega (arith, one, length-map (node_in w).entries ranked_entry)))
    ] in
    (and_from _ _ (eq-eqb _ _ from) (eq-eqb _ _ upto), and_from _ _ (and_from _ _ clean (eq-eqb _ _ at)) pair)

passed : (w : List ℕ) (level low high : ℕ) → bytes_has_fences low high w ≡ true → bytes_has_form level w ≡ true
    → (bytes_clean w ≡ true) × ((node_in w).level ≡ level) × (rank (node_in w).low ≡ low) × (high_rank (node_in w).high ≡ high)
passed w level low high fences form =
    let (a, some) = and_parts _ (eqb level 0 || leb 1 (length (node_in w).entries)) form in
    let (clean, at) = and_parts (bytes_clean w) (eqb (node_in w).level level) a in
    let (from, upto) = and_parts (eqb (rank (node_in w).low) low) (eqb (high_rank (node_in w).high) high) fences in
    (clean, eqb-true _ _ at, eqb-true _ _ from, eqb-true _ _ upto)

splits : (n : Node) (separator : ℕ) → size bytes n ≤ 504 → 504 < size bytes n + 10 → PaysForSplit bytes n separator
splits n separator fits full =
    let p = pays (bytes.fence_size n.low) (bytes.fence_size n.high) (bytes.fence_size separator) n.pairs (fence-few n.low)
    (fence-few n.high) (fence-few separator) fits full in
    record {
      left_some = p.left_some;
      right_some = p.right_some;
      left_fits = p.left_fits;
      right_fits = p.right_fits;
      below = (let le = p.below in omega (arith, le));
      above = (let le = p.above in omega (arith, le));
    }

tag_is : (w : List ℕ) → (node_in w).tag ≡ get_or w 0 0
unfolding node_in
tag_is w = refl

pub bytes_is_layout : IsLayout bytes
bytes_is_layout = record {
  some_words = omega arith;
  some_magic = omega arith;
  some_keys = omega arith;
  free_tag = λ w zeros. tag_none (node_in w).tag (λ e. omega (arith, zeros 0, e, tag_is w)) (λ e. omega (arith, zeros 0, e, tag_is w));
  meta_tag = λ w magic node. let none : kind_of (node_in w).tag ≡ 0 = tag_none (node_in w).tag (λ e. omega (arith, magic, e, tag_is w))
      (λ e. omega (arith, magic, e, tag_is w)) in omega (arith, none, node);
  clean_length = clean_length;
  clean_high = λ w clean. high_below w clean (node_in w).high (fits w clean).high;
  clean_fits = clean_fits;
  passes = λ w level low high tag clean. passes w level low high clean;
  passed = λ w level low high upto tag. passed w level low high;
  grows = λ key. omega (arith, key_words-few key);
  new_root = λ separator. omega (arith, fence-few bytes.key_end, fence-few 0, key_words-few 0, key_words-few separator);
  joins = omega arith;
  splits = splits;
}
