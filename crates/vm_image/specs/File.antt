-- The bytes of a page file, and the next page and the free pages of an image.
use Rattle.std.specs.Prelude.{◌≡◌, ℕ, zero, suc, ◌+◌, ◌*◌, ◌/◌, ◌<◌, ◌≤◌, ◌==◌, ◌&&◌, nat_le, List, [], ◌∷◌, ◌++◌}
use Rattle.std.specs.Prelude.{length, take, drop, if◌then◌else◌}
use Rattle.std.specs.Int.{w64, from_be_bytes}
use Rattle.std.specs.{List.Contains, List.Sorted.IsStrictlyIncreasing}
use Rattle.vm_page.specs.Bytes.{bytes_of_words, words_of_bytes}
use Rattle.vm_page.specs.Pages.{page_at}
use Rattle.vm_tree_model.specs.Fixed.{fixed, fixed_magic}
use Rattle.vm_tree_model.specs.Page.{IsFree}

-- how many words the pages of a file have: 512 where its first eight bytes are those of "VMCACHE2"
abbrev pub words_of_file : List ℕ → ℕ
words_of_file bytes = if nat_le 8 (length bytes) && from_be_bytes w64 (take 8 bytes) == fixed_magic 512 then 512 else 64

-- how many pages of n words a file has at most
abbrev pub most_pages : ℕ → ℕ
most_pages n = if n == 64 then 65536 else 8192

-- 2 to 65,536 pages of 64 words, or 2 to 8,192 pages of 512: eight bytes for each word
abbrev pub IsPageFile : ℕ → List ℕ → Type 0
IsPageFile n bytes = (pages : ℕ) × (2 ≤ pages) × (pages ≤ most_pages n) × (length bytes ≡ 8 * n * pages)

-- the words of page p: those of the 8 * n bytes from 8 * n * p on
abbrev pub page_in : ℕ → List ℕ → ℕ → List ℕ
page_in n bytes p = words_of_bytes (take (8 * n) (drop (8 * n * p) bytes))

-- the first pages, as many as the last number
abbrev pub pages_in : ℕ → List ℕ → ℕ → List (List ℕ)
pages_in n bytes zero = []
pages_in n bytes (suc count) = pages_in n bytes count ++ page_in n bytes count ∷ []

-- all pages
abbrev pub pages_of_bytes : ℕ → List ℕ → List (List ℕ)
pages_of_bytes n bytes = pages_in n bytes (length bytes / (8 * n))

-- the bytes of each page, in the pages' order
abbrev pub bytes_of_pages : List (List ℕ) → List ℕ
bytes_of_pages [] = []
bytes_of_pages (w ∷ ws) = bytes_of_words w ++ bytes_of_pages ws

-- each page has n words
abbrev pub HaveWords : ℕ → List (List ℕ) → Type 0
HaveWords n pages = (p : ℕ) → p < length pages → length (page_at pages p) ≡ n

-- of pages of n words: one more than the greatest page that is not all zero, and 0 where all are
pub record IsNextPage (n : ℕ) (pages : List (List ℕ)) (next : ℕ) : Type 0 where
  pub within : next ≤ length pages
  pub free : (p : ℕ) → next ≤ p → p < length pages → IsFree (fixed n) (page_at pages p)
  pub used : (p : ℕ) → p + 1 ≡ next → ¬ (IsFree (fixed n) (page_at pages p))

-- of pages of n words: the numbers of the free pages from 1 to below the next one, rising. Each number is that of
-- such a page, and that of each such page is there
pub record AreFreePages (n : ℕ) (pages : List (List ℕ)) (next : ℕ) (free : List ℕ) : Type 0 where
  pub rising : IsStrictlyIncreasing free
  pub each : (p : ℕ) → Contains free p → (1 ≤ p) × (p < next) × IsFree (fixed n) (page_at pages p)
  pub all : (p : ℕ) → 1 ≤ p → p < next → IsFree (fixed n) (page_at pages p) → Contains free p
