-- What is read of a node's words is the node.
use Rattle.std.proofs.Common.{◌≡◌, ℕ, zero, suc, ◌+◌, ◌-◌, ◌*◌, ◌/◌, ◌%◌, ◌<◌, ◌≤◌, eqb, false, List, [], ◌∷◌, ◌++◌, length, get_or, take}
use Rattle.std.proofs.Common.{drop, map, min, replicate, Option, Some, None, if◌then◌else◌, refl, sym, ap, ◌∙◌, arith, length-append}
use Rattle.std.proofs.lemmas.Bool.{ne_eqb}
use Rattle.std.proofs.lemmas.List.{append_assoc, append-nil, length-replicate, get_or-drop, drop-drop}
use Rattle.std.proofs.lemmas.Nat.{be_bytes_8, div-mul-add, mod-mul-add}
use Rattle.std.specs.Int.{w64, to_be_bytes, from_be_bytes}
use Rattle.vm_page.specs.Bytes.{bytes_of_words}
use Rattle.vm_bytes_form.specs.Strings.{AreBytes, IsString}
use Rattle.vm_bytes_form.specs.Cuts.{words_for}
use Rattle.vm_bytes_form.specs.Forms.{KeyEntry, ByteNode, padded, string_words, key_block, fence_block, entry_block, heap, slots}
use Rattle.vm_bytes_form.specs.Forms.{fence_slot}
use Rattle.vm_bytes_form.specs.Forms.{high_slot, fence_blocks, room_taken, form_of, string_at, entry_at, node_in, AreKeys, IsFitting}

-- lists that are put together, at the place where they meet
drop-exact : {X : Type 0} (xs ys : List X) (n : ℕ) → n ≡ length xs → drop n (xs ++ ys) ≡ ys
drop-exact [] ys zero e = refl
drop-exact [] ys (suc n) e = absurd (omega (arith, e))
drop-exact (x ∷ xs) ys zero e = absurd (omega (arith, e))
drop-exact (x ∷ xs) ys (suc n) e = drop-exact xs ys n (omega (arith, e))

take-exact : {X : Type 0} (xs ys : List X) (n : ℕ) → n ≡ length xs → take n (xs ++ ys) ≡ xs
take-exact [] ys zero e = refl
take-exact [] ys (suc n) e = absurd (omega (arith, e))
take-exact (x ∷ xs) ys zero e = absurd (omega (arith, e))
take-exact (x ∷ xs) ys (suc n) e = ap (λ (l : List _). x ∷ l) (take-exact xs ys n (omega (arith, e)))

get-exact : (xs ys : List ℕ) (y n : ℕ) → n ≡ length xs → get_or (xs ++ y ∷ ys) n 0 ≡ y
get-exact [] ys y zero e = refl
get-exact [] ys y (suc n) e = absurd (omega (arith, e))
get-exact (x ∷ xs) ys y zero e = absurd (omega (arith, e))
get-exact (x ∷ xs) ys y (suc n) e = get-exact xs ys y n (omega (arith, e))

-- strings in words
length-padded : (n : ℕ) (s : List ℕ) → length (padded n s) ≡ n
length-padded zero s = refl
length-padded (suc n) [] = omega (arith, length-padded n [])
length-padded (suc n) (b ∷ s) = omega (arith, length-padded n s)

padded-below : (n : ℕ) (s : List ℕ) → AreBytes s → (i : ℕ) → get_or (padded n s) i 0 < 256
padded-below zero s bytes i = omega arith
padded-below (suc n) [] bytes zero = omega arith
padded-below (suc n) [] bytes (suc i) = padded-below n [] bytes i
padded-below (suc n) (b ∷ s) bytes zero = bytes.0
padded-below (suc n) (b ∷ s) bytes (suc i) = padded-below n s bytes.1 i

padded-join : (m k : ℕ) (s : List ℕ) → padded m s ++ padded k (drop m s) ≡ padded (m + k) s
padded-join zero k s = let none : 0 + k ≡ k = omega arith in rw none refl
padded-join (suc m) k [] = let more : suc m + k ≡ suc (m + k) = omega arith in
    rw more (ap (λ (l : List ℕ). 0 ∷ l) (padded-nil m k ∙ padded-join m k []))
  where
    padded-nil : (m k : ℕ) → padded m [] ++ padded k [] ≡ padded m [] ++ padded k (drop m [])
    padded-nil zero k = refl
    padded-nil (suc m) k = refl
padded-join (suc m) k (b ∷ s) = let more : suc m + k ≡ suc (m + k) = omega arith in rw more (ap (λ (l : List ℕ). b ∷ l) (padded-join m k s))

take-padded : (m : ℕ) (s rest : List ℕ) → length s ≤ m → take (length s) (padded m s ++ rest) ≡ s
take-padded m [] rest fits = refl
take-padded zero (b ∷ s) rest fits = absurd (omega (arith, fits))
take-padded (suc m) (b ∷ s) rest fits = ap (λ (l : List ℕ). b ∷ l) (take-padded m s rest (omega (arith, fits)))

AreBytes-drop : (n : ℕ) (s : List ℕ) → AreBytes s → AreBytes (drop n s)
AreBytes-drop zero s bytes = bytes
AreBytes-drop (suc n) [] bytes = tt
AreBytes-drop (suc n) (b ∷ s) bytes = AreBytes-drop n s bytes.1

pub length-string_words : (n : ℕ) (s : List ℕ) → length (string_words n s) ≡ n
length-string_words zero s = refl
length-string_words (suc n) s = omega (arith, length-string_words n (drop 8 s))

bytes-string_words : (n : ℕ) (s rest : List ℕ) → AreBytes s
    → bytes_of_words (string_words n s ++ rest) ≡ padded (8 * n) s ++ bytes_of_words rest
bytes-string_words zero s rest bytes = refl
bytes-string_words (suc n) s rest bytes =
    let word : to_be_bytes w64 (from_be_bytes w64 (padded 8 s)) ≡ padded 8 s = be_bytes_8 (padded 8 s) (from_be_bytes w64 (padded 8 s))
    (length-padded 8 s) (padded-below 8 s bytes) refl in
    let more : 8 + 8 * n ≡ 8 * suc n = omega arith in
    ap (λ (l : List ℕ). l ++ bytes_of_words (string_words n (drop 8 s) ++ rest)) word
    ∙ ap (λ (l : List ℕ). padded 8 s ++ l) (bytes-string_words n (drop 8 s) rest (AreBytes-drop 8 s bytes))
    ∙ sym (append_assoc (padded 8 s) (padded (8 * n) (drop 8 s)) (bytes_of_words rest))
    ∙ ap (λ (l : List ℕ). l ++ bytes_of_words rest) (padded-join 8 (8 * n) s)
    ∙ ap (λ (m : ℕ). padded m s ++ bytes_of_words rest) more

-- the string at a slot whose place has its block
string-there : (words s rest : List ℕ) (place : ℕ) → IsString 64 s → drop place words ≡ key_block s ++ rest
    → string_at words (place * 256 + length s) ≡ s
unfolding string_at
string-there words s rest place is at =
    let place_is : (place * 256 + length s) / 256 ≡ place = div-mul-add place 256 (length s) (omega (arith, is.fits)) in
    let long_is : (place * 256 + length s) % 256 ≡ length s = mod-mul-add place 256 (length s) (omega (arith, is.fits)) in
    let whole : min (length s) 64 ≡ length s = omega (arith, is.fits) in
    rw (place_is, long_is, whole, at, bytes-string_words (words_for (length s)) s rest is.bytes)
    (take-padded (8 * words_for (length s)) s (bytes_of_words rest) (omega arith))

value-there : (words s rest : List ℕ) (place v : ℕ) → IsString 64 s → drop place words ≡ key_block s ++ v ∷ rest
    → get_or words ((place * 256 + length s) / 256 + words_for ((place * 256 + length s) % 256)) 0 ≡ v
value-there words s rest place v is at =
    let place_is : (place * 256 + length s) / 256 ≡ place = div-mul-add place 256 (length s) (omega (arith, is.fits)) in
    let long_is : (place * 256 + length s) % 256 ≡ length s = mod-mul-add place 256 (length s) (omega (arith, is.fits)) in
    rw (place_is, long_is) (sym (get_or-drop place words (words_for (length s)) 0)
    ∙ ap (λ (l : List ℕ). get_or l (words_for (length s)) 0) at
    ∙ get-exact (key_block s) rest v (words_for (length s)) (sym (length-string_words (words_for (length s)) s)))

-- the entries whose blocks stand below a place
entries-there : (words : List ℕ) (es : List KeyEntry) (end : ℕ) (back : List ℕ) → AreKeys es → length (heap es) ≤ end
    → drop (end - length (heap es)) words ≡ heap es ++ back → map (entry_at words) (slots end es) ≡ es
entries-there words [] end back keys fits at = refl
entries-there words (e ∷ es) end back keys fits at =
    let long = length-append (heap es) (entry_block e) in
    let place : ℕ = end - length (entry_block e) in
    let below : place - length (heap es) ≡ end - length (heap (e ∷ es)) = omega (arith, long) in
    let parted : drop (place - length (heap es)) words ≡ heap es ++ (entry_block e ++ back) = rw below (at
    ∙ append_assoc (heap es) (entry_block e) back) in
    let again : length (heap es) + (place - length (heap es)) ≡ place = omega (arith, long, fits) in
    let here : drop place words ≡ entry_block e ++ back = ap (λ (n : ℕ). drop n words) (sym again)
    ∙ dropped (place - length (heap es)) (length (heap es)) ∙ ap (drop (length (heap es))) parted
    ∙ drop-exact (heap es) (entry_block e ++ back) (length (heap es)) refl in
    let block : drop place words ≡ key_block e.0 ++ e.1 ∷ back = here ∙ append_assoc (key_block e.0) (e.1 ∷ []) back in
    let key = string-there words e.0 (e.1 ∷ back) place keys.0 block in
    let value = value-there words e.0 back place e.1 keys.0 block in
    let rest = entries-there words es place (entry_block e ++ back) keys.1 (omega (arith, long, fits)) parted in
    λ i. (key i, value i) ∷ rest i
  where
    dropped : (a b : ℕ) → drop (b + a) words ≡ drop b (drop a words)
    dropped a b = let sum : b + a ≡ a + b = omega arith in ap (λ (n : ℕ). drop n words) sum ∙ sym (drop-drop b a words)

length-slots : (end : ℕ) (es : List KeyEntry) → length (slots end es) ≡ length es
length-slots end [] = refl
length-slots end (e ∷ es) = omega (arith, length-slots (end - length (entry_block e)) es)

module _ (size : ℕ) (n : ByteNode) (fits : IsFitting size n) where
  abbrev front : List ℕ
  front = n.tag ∷ length n.entries ∷ n.level ∷ fence_slot size n.low ∷ high_slot (size - length (key_block n.low)) n.high ∷ 0 ∷ 0 ∷ 0
      ∷ slots (size - length (fence_blocks n)) n.entries ++ replicate (size - 8 - room_taken n) 0

  whole : form_of size n ≡ front ++ (heap n.entries ++ fence_blocks n)
  unfolding form_of
  whole = ap (λ (l : List ℕ). n.tag ∷ length n.entries ∷ n.level ∷ fence_slot size n.low ∷ high_slot
      (size - length (key_block n.low)) n.high ∷ 0 ∷ 0 ∷ 0 ∷ l)
      (append_assoc (slots (size - length (fence_blocks n)) n.entries ++ replicate (size - 8 - room_taken n) 0) (heap n.entries)
      (fence_blocks n))

  length-front : length front ≡ size - length (heap n.entries) - length (fence_blocks n)
  length-front = omega (
    arith,
    length-append (slots (size - length (fence_blocks n)) n.entries) (replicate (size - 8 - room_taken n) 0),
    length-slots (size - length (fence_blocks n)) n.entries,
    length-replicate {A = ℕ} (size - 8 - room_taken n) 0,
    fits.room,
  )

  length-back : length (fence_blocks n) ≡ length (fence_block n.high) + length (key_block n.low)
  length-back = length-append (fence_block n.high) (key_block n.low)

  pub length_form : length (form_of size n) ≡ size
  length_form = ap length whole ∙ omega (
    arith,
    length-append front (heap n.entries ++ fence_blocks n),
    length-append (heap n.entries)
        (fence_blocks n),
    length-front,
    fits.room,
  )

  -- what stands from the heap on, from the fences on, from the low fence on
  from_heap : drop (size - length (fence_blocks n) - length (heap n.entries)) (form_of size n) ≡ heap n.entries ++ fence_blocks n
  from_heap = ap (drop (size - length (fence_blocks n) - length (heap n.entries))) whole
      ∙ drop-exact front (heap n.entries ++ fence_blocks n) _ (omega (arith, length-front))

  from_fences : drop (size - length (fence_blocks n)) (form_of size n) ≡ fence_blocks n
  from_fences =
      ap (drop (size - length (fence_blocks n))) (whole ∙ sym (append_assoc front (heap n.entries) (fence_blocks n)))
      ∙ drop-exact (front ++ heap n.entries) (fence_blocks n) _
      (omega (arith, length-append front (heap n.entries), length-front, fits.room))

  from_low : drop (size - length (key_block n.low)) (form_of size n) ≡ key_block n.low
  from_low =
      ap (drop (size - length (key_block n.low))) (whole ∙ sym (append_assoc front (heap n.entries) (fence_blocks n))
      ∙ sym (append_assoc (front ++ heap n.entries) (fence_block n.high) (key_block n.low)))
      ∙ drop-exact ((front ++ heap n.entries) ++ fence_block n.high) (key_block n.low) _
      (omega (
        arith,
        length-append (front ++ heap n.entries) (fence_block n.high),
        length-append front (heap n.entries),
        length-front,
        length-back,
        fits.room,
      ))

  fence_read : (s rest : List ℕ) (end : ℕ) → IsString 64 s → drop (end - length (key_block s)) (form_of size n) ≡ key_block s ++ rest
      → string_at (form_of size n) (fence_slot end s) ≡ s
  unfolding string_at
  fence_read [] rest end is at = refl
  fence_read (b ∷ s) rest end is at = string-there (form_of size n) (b ∷ s) rest (end - length (key_block (b ∷ s))) is at

  low_read : string_at (form_of size n) (fence_slot size n.low) ≡ n.low
  low_read = fence_read n.low [] size fits.low (from_low ∙ sym (append-nil (key_block n.low)))

  slot_some : (s : List ℕ) (end : ℕ) → 1 ≤ length s → eqb (fence_slot end s) 0 ≡ false
  slot_some [] end some = absurd (omega (arith, some))
  slot_some (b ∷ s) end some = ne_eqb _ 0 (λ e. omega (arith, e))

  high_read : (high : Option (List ℕ)) → n.high ≡ high
      → (if eqb (high_slot (size - length (key_block n.low)) high) 0 then None else Some
      (string_at (form_of size n) (high_slot (size - length (key_block n.low)) high))) ≡ high
  high_read None is = refl
  high_read (Some s) is =
      let of = fits.high s is in
      let blocks : fence_blocks n ≡ key_block s ++ key_block n.low = ap (λ (h : Option (List ℕ)). fence_block h ++ key_block n.low) is in
      let place : size - length (key_block n.low) - length (key_block s) ≡ size - length (fence_blocks n) = omega
      (arith, ap length blocks, length-append (key_block s) (key_block n.low)) in
      rw (slot_some s (size - length (key_block n.low)) of.1)
      (ap (λ (t : List ℕ). Some t) (fence_read s (key_block n.low) (size - length (key_block n.low)) of.0
      (rw place (from_fences ∙ blocks))))

  entries_read : map (entry_at (form_of size n)) (take (length n.entries) (drop 8 (form_of size n))) ≡ n.entries
  unfolding form_of
  entries_read =
      ap (λ (l : List ℕ). map (entry_at (form_of size n)) (take (length n.entries) l))
      (append_assoc (slots (size - length (fence_blocks n)) n.entries ++ replicate (size - 8 - room_taken n) 0) (heap n.entries)
      (fence_blocks n)
      ∙ append_assoc (slots (size - length (fence_blocks n)) n.entries) (replicate (size - 8 - room_taken n) 0)
      (heap n.entries ++ fence_blocks n))
      ∙ ap (map (entry_at (form_of size n))) (take-exact (slots (size - length (fence_blocks n)) n.entries)
      (replicate (size - 8 - room_taken n) 0 ++ (heap n.entries ++ fence_blocks n)) (length n.entries)
      (sym (length-slots (size - length (fence_blocks n)) n.entries)))
      ∙ entries-there (form_of size n) n.entries (size - length (fence_blocks n)) (fence_blocks n) fits.keys
      (omega (arith, fits.room)) from_heap

  pub read_back : node_in (form_of size n) ≡ n
  unfolding form_of node_in
  read_back = λ i. record { tag = n.tag; level = n.level; low = low_read i; high = high_read n.high refl i; entries = entries_read i }
