-- What the slots of any words name.
use Rattle.std.proofs.Common.{◌≡◌, ◌⊎◌, inl, inr, ℕ, zero, suc, ◌+◌, ◌-◌, ◌*◌, ◌/◌, ◌%◌, ◌<◌, ◌≤◌, List, [], ◌∷◌, ◌++◌, length, get_or, min}
use Rattle.std.proofs.Common.{take, drop, refl, sym, ap, ◌∙◌, arith, length-drop}
use Rattle.std.proofs.lemmas.Bool.{cases_lt}
use Rattle.std.proofs.lemmas.List.{drop_all, get_or-drop, get_or-map, get_or-take, length-map, length-take, take-append-le, take_all}
use Rattle.std.proofs.lemmas.List.{take_more}
use Rattle.std.specs.Int.{w64, to_be_bytes}
use Rattle.vm_page.specs.Bytes.{bytes_of_words}
use Rattle.vm_page.proofs.Words.{bytes_of-append, bytes_of-one}
use Rattle.vm_bytes_form.specs.Cuts.{words_for}
use Rattle.vm_bytes_form.specs.Forms.{entry_at, node_in, string_at}

module _ (words : List ℕ) (size : length words ≡ 512) where
  behind : length (drop 8 words) ≡ 504
  behind = omega (arith, length-drop 8 words, size)

  pub count_is : length (node_in words).entries ≡ min (get_or words 1 0) 504
  unfolding node_in
  count_is = length-map (take (get_or words 1 0) (drop 8 words)) (entry_at words)
      ∙ length-take (get_or words 1 0) (drop 8 words) ∙ ap (min (get_or words 1 0)) behind

  pub entry_is : (i : ℕ) → i < length (node_in words).entries
      → get_or (node_in words).entries i ([], 0) ≡ entry_at words (get_or words (8 + i) 0)
  unfolding node_in
  entry_is i lt =
      let few : i < length (take (get_or words 1 0) (drop 8 words)) = omega (
        arith,
        lt,
        length-map (take (get_or words 1 0) (drop 8 words))
            (entry_at words),
      ) in
      get_or-map (entry_at words) (take (get_or words 1 0) (drop 8 words)) i 0 ([], 0) few
      ∙ ap (entry_at words) (get_or-take (get_or words 1 0) (drop 8 words) i 0
      (omega (arith, few, length-take (get_or words 1 0) (drop 8 words)))
      ∙ get_or-drop 8 words i 0)

take-twice : (n : ℕ) (xs ys : List ℕ) → take n (take n xs ++ ys) ≡ take n (xs ++ ys)
take-twice zero xs ys = refl
take-twice (suc n) [] ys = refl
take-twice (suc n) (x ∷ xs) ys = ap (λ (l : List ℕ). x ∷ l) (take-twice n xs ys)

take-short : (n k : ℕ) (ws : List ℕ) → n ≤ 8 * k → take n (bytes_of_words (take k ws)) ≡ take n (bytes_of_words ws)
take-short n zero ws le = none n (omega (arith, le)) (bytes_of_words ws)
  where
    none : (n : ℕ) → n ≤ 0 → (l : List ℕ) → take n [] ≡ take n l
    none zero le l = refl
    none (suc n) le l = absurd (omega (arith, le))
take-short n (suc k) [] le = refl
take-short n (suc k) (w ∷ ws) le = elim (cases_lt n 8) [
  | inl lt ↦ take-append-le n (to_be_bytes w64 w) (bytes_of_words (take k ws)) (omega (arith, lt))
      ∙ sym (take-append-le n (to_be_bytes w64 w) (bytes_of_words ws) (omega (arith, lt)))
  | inr more ↦ let fewer : n - 8 ≤ 8 * k = omega (arith, le) in
      take-behind (n - 8) n (to_be_bytes w64 w) (bytes_of_words (take k ws)) (bytes_of_words ws) (omega (arith, more))
      (take-short (n - 8) k ws fewer)
]
  where
    take-behind : (m n : ℕ) (front xs ys : List ℕ) → length front + m ≡ n → take m xs ≡ take m ys
        → take n (front ++ xs) ≡ take n (front ++ ys)
    take-behind m n [] xs ys is same = let e : m ≡ n = omega (arith, is) in rw (← e) same
    take-behind m zero (f ∷ fs) xs ys is same = refl
    take-behind m (suc n) (f ∷ fs) xs ys is same = ap (λ (l : List ℕ). f ∷ l) (take-behind m n fs xs ys (omega (arith, is)) same)

module _ (words : List ℕ) (size : length words ≡ 512) (from long : ℕ) where
  -- a further word shows eight bytes more
  adds_word : (k word : ℕ) (key more : List ℕ) → from + k < 512 → get_or words (from + k) 0 ≡ word
      → key ≡ take long (bytes_of_words (take k (drop from words))) → more ≡ take long (key ++ to_be_bytes w64 word)
      → more ≡ take long (bytes_of_words (take (k + 1) (drop from words)))
  adds_word k word key more inside is so_far now =
      now ∙ ap (λ (l : List ℕ). take long (l ++ to_be_bytes w64 word)) so_far
      ∙ take-twice long (bytes_of_words (take k (drop from words))) (to_be_bytes w64 word)
      ∙ sym (ap (take long) (ap bytes_of_words (take_more (drop from words) k 0 (omega (arith, length-drop from words, size, inside)))
      ∙ bytes_of-append (take k (drop from words)) (get_or (drop from words) k 0 ∷ [])
      ∙ ap (λ (l : List ℕ). bytes_of_words (take k (drop from words)) ++ l) (bytes_of-one (get_or (drop from words) k 0)
      ∙ ap (to_be_bytes w64) (get_or-drop from words k 0 ∙ is))))

  pub shows_more : (k i next word : ℕ) (key more : List ℕ) → from + k ≡ i → k + 1 ≡ next → i < 512 → get_or words i 0 ≡ word
      → key ≡ take long (bytes_of_words (take k (drop from words))) → more ≡ take long (key ++ to_be_bytes w64 word)
      → more ≡ take long (bytes_of_words (take next (drop from words)))
  shows_more k i next word key more here next_is inside is so_far now =
      adds_word k word key more (omega (arith, here, inside)) (ap (λ (n : ℕ). get_or words n 0) here ∙ is) so_far now
      ∙ ap (λ (n : ℕ). take long (bytes_of_words (take n (drop from words)))) next_is

  -- as many words as the string needs, or all that are left, show it whole
  pub shows_all : (slot k : ℕ) (key : List ℕ) → from ≡ min (slot / 256) 512 → long ≡ min (slot % 256) 64
      → (words_for long ≤ k) ⊎ (512 ≤ from + k)
      → key ≡ take long (bytes_of_words (take k (drop from words))) → key ≡ string_at words slot
  unfolding string_at
  shows_all slot k key from_is long_is enough is = is ∙ whole ∙ ap (λ (n : ℕ). take n (bytes_of_words (drop from words))) long_is
      ∙ ap (λ (l : List ℕ). take (min (slot % 256) 64) (bytes_of_words l)) place
    where
      whole : take long (bytes_of_words (take k (drop from words))) ≡ take long (bytes_of_words (drop from words))
      whole = elim enough [
        | inl le ↦ take-short long k (drop from words) (omega (arith, le))
        | inr past ↦ ap (λ (l : List ℕ). take long (bytes_of_words l))
            (take_all k (drop from words) (omega (arith, length-drop from words, size, past)))
      ]

      place : drop from words ≡ drop (slot / 256) words
      place = elim (cases_lt (slot / 256) 512) [
        | inl lt ↦ let same : from ≡ slot / 256 = omega (arith, from_is, lt) in ap (λ (n : ℕ). drop n words) same
        | inr past ↦ drop_all from words (omega (arith, from_is, past, size))
            ∙ sym (drop_all (slot / 256) words (omega (arith, past, size)))
      ]
