-- A page has as many words as a node of the tree's layout: its owner takes no others. And pages of zeros.
use Rattle.std.proofs.Common.{refl, replicate, slice_index, subst, suc, sym, true, zero, ℕ, ◌<◌, ◌==◌, ◌∙◌, ◌≡◌}
use Rattle.std.proofs.lemmas.Bool.{eqb-true}

-- so has each page of a table that began so
pub tree-size : {n : ℕ} (start key size : ℕ) → start ≡ key → size ≡ key → (size == n) ≡ true → start ≡ n
tree-size {n} start key size began is takes = began ∙ sym is ∙ eqb-true size n takes

-- and a place among them is one of the table's pages
pub tree_place : {n : ℕ} (i key size : ℕ) → size ≡ key → (size == n) ≡ true → i < n → i < key
tree_place {n} i key size is takes l = subst (λ (m : ℕ). i < m) (sym (eqb-true size n takes) ∙ is) l

-- so a buffer of as many words is one for them
pub tree_key : {n : ℕ} (key size : ℕ) → size ≡ key → (size == n) ≡ true → n ≡ key
tree_key {n} key size is takes = sym (eqb-true size n takes) ∙ is

-- a word of so many zeros, and what stands for it behind them
pub zero-at : (n i : ℕ) → slice_index (replicate n 0) i ≡ 0
zero-at zero i = refl
zero-at (suc n) zero = refl
zero-at (suc n) (suc i) = zero-at n i
