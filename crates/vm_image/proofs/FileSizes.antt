-- How many bytes a page file has, and how many pages its bytes are.
use Rattle.std.proofs.Common.{◌≡◌, ℕ, ◌*◌, ◌/◌, ◌%◌, ◌≤◌, arith}
use Rattle.vm_page.specs.Sizes.{IsSize}
use Rattle.vm_tree_model.proofs.FixedLaws.{size_is}
use Rattle.vm_image.specs.File.{most_pages}

module _ (n : ℕ) (size : IsSize n) where
  pub bytes_few : (pages : ℕ) → pages ≤ most_pages n → 8 * n * pages ≤ 33554432
  bytes_few pages = size_is (λ k. pages ≤ most_pages k → 8 * k * pages ≤ 33554432) n size (λ le. omega (arith, le))
      (λ le. omega (arith, le))

  -- so many whole pages
  pub whole_pages : (len : ℕ) → len % (8 * n) ≡ 0 → len ≡ 8 * n * (len / (8 * n))
  whole_pages len = size_is (λ k. len % (8 * k) ≡ 0 → len ≡ 8 * k * (len / (8 * k))) n size
      (λ none. omega (arith, none)) (λ none. omega (arith, none))

  pub pages_whole : (len pages : ℕ) → len ≡ 8 * n * pages → (len % (8 * n) ≡ 0) × (len / (8 * n) ≡ pages)
  pages_whole len pages = size_is (λ k. len ≡ 8 * k * pages → (len % (8 * k) ≡ 0) × (len / (8 * k) ≡ pages)) n size
      (λ is. (omega (arith, is), omega (arith, is))) (λ is. (omega (arith, is), omega (arith, is)))
