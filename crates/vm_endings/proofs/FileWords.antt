-- How many words the pages of a file have, by the first word of its page 0.
use Rattle.std.proofs.Common.{◌≡◌, ◌∙◌, ◌&&◌, ◌==◌, ◌*◌, ◌-◌, ◌/◌, ◌≤◌, zero, suc, ℕ, Bool, true, false, cond, List}
use Rattle.std.proofs.Common.{[], ◌∷◌, arith, ap, get_or, length, length-append, length-take, nat_le, refl, subst}
use Rattle.std.proofs.Common.{sym, take}
use Rattle.std.specs.Int.{from_be_bytes, w64}
use Rattle.std.proofs.lemmas.Bool.Decides.{nat_tests}
use Rattle.std.proofs.lemmas.List.{get_or_append_left, take-take}
use Rattle.vm_page.specs.Bytes.{word_in, words_in, words_of_bytes}
use Rattle.vm_page.specs.{Pages.page_at, Sizes.IsSize}
use Rattle.vm_tree_model.specs.{Fixed.fixed, Fixed.fixed_magic, Tree.IsTree}
use Rattle.vm_tree_model.proofs.FixedLaws.{size_is}
use Rattle.vm_image.specs.File.{IsPageFile, page_in, pages_in, pages_of_bytes, words_of_file}
use Rattle.vm_image.proofs.FileSizes.{pages_whole}
use Rattle.vm_endings.specs.Images.{IsFileOf}

length-words_in : (bytes : List ℕ) (count : ℕ) → length (words_in bytes count) ≡ count
length-words_in bytes zero = refl
length-words_in bytes (suc count) =
    omega (arith, length-append (words_in bytes count) (word_in bytes count ∷ []), length-words_in bytes count)

first_word : (bytes : List ℕ) (count : ℕ) → get_or (words_in bytes (suc count)) 0 0 ≡ word_in bytes 0
first_word bytes zero = refl
first_word bytes (suc count) =
    get_or_append_left (words_in bytes (suc count)) (word_in bytes (suc count) ∷ []) 0 0
    (omega (arith, length-words_in bytes (suc count))) ∙ first_word bytes count

pub length-pages_in : (n : ℕ) (bytes : List ℕ) (count : ℕ) → length (pages_in n bytes count) ≡ count
length-pages_in n bytes zero = refl
length-pages_in n bytes (suc count) =
    omega (arith, length-append (pages_in n bytes count) (page_in n bytes count ∷ []), length-pages_in n bytes count)

first_page : (n : ℕ) (bytes : List ℕ) (count : ℕ) → page_at (pages_in n bytes (suc count)) 0 ≡ page_in n bytes 0
first_page n bytes zero = refl
first_page n bytes (suc count) =
    get_or_append_left (pages_in n bytes (suc count)) (page_in n bytes (suc count) ∷ []) [] 0
    (omega (arith, length-pages_in n bytes (suc count))) ∙ first_page n bytes count

-- the words of a page of words and more begin with the number of its first eight bytes
first_of : (page : List ℕ) (count : ℕ) → length page / 8 ≡ suc count → get_or (words_of_bytes page) 0 0 ≡ from_be_bytes w64 (take 8 page)
first_of page count is = ap (λ k. get_or (words_in page k) 0 0) is ∙ first_word page count

front_page : (n : ℕ) (bytes : List ℕ) → page_in n bytes 0 ≡ words_of_bytes (take (8 * n) bytes)
front_page n bytes = let none : 8 * n * 0 ≡ 0 = omega arith in rw none refl

whole_word : (n len : ℕ) → 8 ≤ 8 * n → len ≡ 8 * n → len / 8 ≡ suc (n - 1)
whole_word n len some is = omega (arith, some, is)

-- a page file's first eight bytes are the first word of its page 0
first_bytes : (n : ℕ) (bytes : List ℕ) (count : ℕ) → 8 ≤ 8 * n → 8 * n ≤ length bytes
    → get_or (page_at (pages_in n bytes (suc count)) 0) 0 0 ≡ from_be_bytes w64 (take 8 bytes)
first_bytes n bytes count some whole =
    let long : length (take (8 * n) bytes) ≡ 8 * n = omega (arith, length-take (8 * n) bytes) in
    ap (λ (w : List ℕ). get_or w 0 0) (first_page n bytes count ∙ front_page n bytes)
    ∙ first_of (take (8 * n) bytes) (n - 1) (whole_word n (length (take (8 * n) bytes)) some long)
    ∙ ap (λ (l : List ℕ). from_be_bytes w64 l) (take-take 8 (8 * n) bytes some)

by_magic : (n : ℕ) (bytes : List ℕ) → IsSize n → from_be_bytes w64 (take 8 bytes) ≡ fixed_magic n → 8 ≤ length bytes
    → words_of_file bytes ≡ n
by_magic n bytes size = size_is
    (λ k. from_be_bytes w64 (take 8 bytes) ≡ fixed_magic k → 8 ≤ length bytes → words_of_file bytes ≡ k)
    n
    size
    (λ is long. rw is (grind (arith, nat_tests)))
    (λ is long. rw is (grind (arith, nat_tests)))

-- where page 0 begins with the first word of files with pages of n words, the file is told to have such pages
pub file_words : (n : ℕ) (bytes : List ℕ) → IsSize n → IsPageFile n bytes
    → get_or (page_at (pages_of_bytes n bytes) 0) 0 0 ≡ fixed_magic n → words_of_file bytes ≡ n
file_words n bytes size file begins =
    let some : 8 ≤ 8 * n = size_is (λ k. 8 ≤ 8 * k) n size (omega arith) (omega arith) in
    let whole : 8 * n ≤ 8 * n * file.0 = size_is (λ k. 8 * k ≤ 8 * k * file.0) n size (omega (arith, file.1)) (omega (arith, file.1)) in
    let long : 8 * n ≤ length bytes = omega (arith, file.3, whole) in
    let count : length bytes / (8 * n) ≡ suc (file.0 - 1) = omega (arith, (pages_whole n size (length bytes) file.0 file.3).1, file.1) in
    let word : get_or (page_at (pages_of_bytes n bytes) 0) 0 0 ≡ from_be_bytes w64 (take 8 bytes) =
    ap (λ k. get_or (page_at (pages_in n bytes k) 0) 0 0) count ∙ first_bytes n bytes (file.0 - 1) some long in
    by_magic n bytes size (sym word ∙ begins) (omega (arith, some, long))

-- it is told to have pages of one of the sizes
pub file_sized : (bytes : List ℕ) → IsSize (words_of_file bytes)
file_sized bytes = go (nat_le 8 (length bytes) && from_be_bytes w64 (take 8 bytes) == fixed_magic 512)
  where
    go : (b : Bool) → IsSize (cond b 512 64)
    go true = refl
    go false = refl

-- the bytes of an image whose pages are a tree are a page file of these pages
pub tree_file : (n : ℕ) (pages : List (List ℕ)) (bytes : List ℕ) → IsSize n → IsTree (fixed n) pages
    → IsPageFile n bytes → pages_of_bytes n bytes ≡ pages → IsFileOf n pages bytes
tree_file n pages bytes size tree file back =
    let words : words_of_file bytes ≡ n =
    file_words n bytes size file (ap (λ (ps : List (List ℕ)). get_or (page_at ps 0) 0 0) back
    ∙ tree.meta.magic) in
    let there : IsTree (fixed n) (pages_of_bytes n bytes) = subst (λ (ps : List (List ℕ)). IsTree (fixed n) ps) (sym back) tree in
    record {
      words = words;
      good = record {
        file = subst (λ k. IsPageFile k bytes) (sym words) file;
        tree = subst (λ k. IsTree (fixed k) (pages_of_bytes k bytes)) (sym words) there;
      };
      held = ap (λ k. pages_of_bytes k bytes) words ∙ back;
    }
