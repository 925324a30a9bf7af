-- Pages and their bytes, page by page.
use Rattle.std.proofs.Common.{◌≡◌, ℕ, zero, suc, ◌+◌, ◌*◌, ◌<◌, ◌≤◌, List, [], ◌∷◌, ◌++◌, length, take, drop, refl}
use Rattle.std.proofs.Common.{arith, ap, sym, ◌∙◌, length-drop, take-add, add-one}
use Rattle.std.proofs.lemmas.List.{append_assoc, append-nil, drop-append-le, drop_all, take-append-le, take_all, take_more}
use Rattle.std.proofs.Math.Nat.{mul-add, mul-suc}
use Rattle.vm_page.specs.Bytes.{bytes_of_words, words_of_bytes}
use Rattle.vm_page.specs.Pages.{page_at}
use Rattle.vm_image.specs.File.{page_in, pages_in, bytes_of_pages, HaveWords}

pub bytes_of-append : (xs ys : List (List ℕ)) → bytes_of_pages (xs ++ ys) ≡ bytes_of_pages xs ++ bytes_of_pages ys
bytes_of-append [] ys = refl
bytes_of-append (x ∷ xs) ys = ap (λ l. bytes_of_words x ++ l) (bytes_of-append xs ys)
    ∙ sym (append_assoc (bytes_of_words x) (bytes_of_pages xs) (bytes_of_pages ys))

bytes_of-one : (w : List ℕ) → bytes_of_pages (w ∷ []) ≡ bytes_of_words w
bytes_of-one w = append-nil (bytes_of_words w)

pub next_at : (m p : ℕ) → m * (p + 1) ≡ m * p + m
next_at m p = omega (arith, mul-add m p 1)

module _ (n : ℕ) where
  -- one page more is read
  pub read_more : (pages : List (List ℕ)) (bytes : List ℕ) (p : ℕ) (w : List ℕ) → pages ≡ pages_in n bytes p
      → w ≡ page_in n bytes p → pages ++ w ∷ [] ≡ pages_in n bytes (p + 1)
  read_more pages bytes p w held is = rw (held, is, add-one) refl

  pub read_back : (pages : List (List ℕ)) (bytes : List ℕ) (p : ℕ) (w : List ℕ)
      → bytes_of_pages pages ≡ take (8 * n * p) bytes → bytes_of_words w ≡ take (8 * n) (drop (8 * n * p) bytes)
      → bytes_of_pages (pages ++ w ∷ []) ≡ take (8 * n * (p + 1)) bytes
  read_back pages bytes p w held is =
      bytes_of-append pages (w ∷ []) ∙ ap (λ l. l ++ bytes_of_pages (w ∷ [])) held
      ∙ ap (λ l. take (8 * n * p) bytes ++ l) (bytes_of-one w ∙ is) ∙ rw (next_at (8 * n) p)
      (sym (take-add (8 * n * p) (8 * n) bytes))

  -- one page of n words more
  pub have_more : (pages : List (List ℕ)) (w : List ℕ) → HaveWords n pages → length w ≡ n → HaveWords n (pages ++ w ∷ [])
  have_more [] w have long zero lt = long
  have_more [] w have long (suc p) lt = absurd (omega (arith, lt))
  have_more (x ∷ xs) w have long zero lt = have 0 (omega arith)
  have_more (x ∷ xs) w have long (suc p) lt = have_more xs w (λ q below. have (suc q) (omega (arith, below))) long p (omega (arith, lt))

-- one page more is written
pub write_more : (bytes : List ℕ) (pages : List (List ℕ)) (p : ℕ) (more : List ℕ)
    → bytes ≡ bytes_of_pages (take p pages) → p < length pages → more ≡ bytes_of_words (page_at pages p)
    → bytes ++ more ≡ bytes_of_pages (take (p + 1) pages)
write_more bytes pages p more held lt is =
    ap (λ l. l ++ more) held ∙ ap (λ l. bytes_of_pages (take p pages) ++ l) (is ∙ sym (bytes_of-one (page_at pages p)))
    ∙ sym (bytes_of-append (take p pages) (page_at pages p ∷ [])) ∙ ap bytes_of_pages (sym (take_more pages p [] lt))

-- pages of bytes stay where more bytes follow
pages_in-append : (n : ℕ) (bytes more : List ℕ) (count : ℕ) → 8 * n * count ≤ length bytes
    → pages_in n (bytes ++ more) count ≡ pages_in n bytes count
pages_in-append n bytes more zero le = refl
pages_in-append n bytes more (suc count) le =
    let whole : 8 * n * suc count ≡ 8 * n * count + 8 * n = mul-suc (8 * n) count in
    let front : drop (8 * n * count) (bytes ++ more) ≡ drop (8 * n * count) bytes ++ more =
    drop-append-le (8 * n * count) bytes more (omega (arith, le, whole)) in
    let same : take (8 * n) (drop (8 * n * count) (bytes ++ more)) ≡ take (8 * n) (drop (8 * n * count) bytes)
    = rw front (take-append-le (8 * n) (drop (8 * n * count) bytes) more (omega (arith, le, whole, length-drop (8 * n * count) bytes))) in
    rw (pages_in-append n bytes more count (omega (arith, le, whole)), same) refl

pub write_back : (n : ℕ) (bytes : List ℕ) (pages : List (List ℕ)) (p : ℕ) (more : List ℕ)
    → pages_in n bytes p ≡ take p pages → length bytes ≡ 8 * n * p → length more ≡ 8 * n → p < length pages
    → words_of_bytes more ≡ page_at pages p
    → pages_in n (bytes ++ more) (p + 1) ≡ take (p + 1) pages
write_back n bytes pages p more held long size lt is =
    let past : drop (8 * n * p) (bytes ++ more) ≡ more = drop-append-le (8 * n * p) bytes more (omega (arith, long))
    ∙ ap (λ l. l ++ more) (drop_all (8 * n * p) bytes (omega (arith, long))) in
    let page : page_in n (bytes ++ more) p ≡ page_at pages p =
    rw past (ap words_of_bytes (take_all (8 * n) more (omega (arith, size))) ∙ is) in
    let at : p + 1 ≡ suc p = omega arith in
    let whole : take (suc p) pages ≡ take p pages ++ page_at pages p ∷ [] = rw (← at) (take_more pages p [] lt) in
    rw (add-one, pages_in-append n bytes more p (omega (arith, long)), held, page) (sym whole)
