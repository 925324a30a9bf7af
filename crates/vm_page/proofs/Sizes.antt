-- A page has some words, and no more than 512. Pages that stand one behind another, each of n words: word i of page f stands at n * f + i.
use Rattle.std.proofs.Common.{ap, arith, suc, sym, ℕ, ⊎_elim, ◌%◌, ◌*◌, ◌+◌, ◌/◌, ◌<◌, ◌==◌, ◌∙◌, ◌≡◌, ◌≤◌}
use Rattle.std.proofs.Math.Nat.{mul-le-mul_left, mul-suc, mul_comm}
use Rattle.std.proofs.lemmas.Bool.{eqb-true, or_cases}
use Rattle.std.proofs.lemmas.Nat.{div-mul-add, mod-mul-add, mul-le}
use Rattle.vm_page.specs.Sizes.{IsSize}

pub size_some : (n : ℕ) → IsSize n → 0 < n
size_some n s = ⊎_elim (λ e. let q : n ≡ 64 = eqb-true n 64 e in omega (arith, q))
    (λ e. let q : n ≡ 512 = eqb-true n 512 e in omega (arith, q)) (or_cases (n == 64) (n == 512) s)

pub size_few : (n : ℕ) → IsSize n → n ≤ 512
size_few n s = ⊎_elim (λ e. let q : n ≡ 64 = eqb-true n 64 e in omega (arith, q))
    (λ e. let q : n ≡ 512 = eqb-true n 512 e in omega (arith, q)) (or_cases (n == 64) (n == 512) s)

-- its words are eights
pub size_eights : (n : ℕ) → IsSize n → n ≤ 8 * (n / 8)
size_eights n s = ⊎_elim (λ e. let q : n ≡ 64 = eqb-true n 64 e in omega (arith, q))
    (λ e. let q : n ≡ 512 = eqb-true n 512 e in omega (arith, q)) (or_cases (n == 64) (n == 512) s)

-- a word of one of the pages stands among the words of all
pub room : (n f pages i : ℕ) → f < pages → i < n → n * f + i < n * pages
room n f pages i lf li = let more : n * suc f ≤ n * pages = mul-le-mul_left n lf in omega (arith, more, mul-suc n f, li)

-- so do all words of one page
pub whole-room : (n f pages : ℕ) → f < pages → n * f + n ≤ n * pages
whole-room n f pages lf = let more : n * suc f ≤ n * pages = mul-le-mul_left n lf in omega (arith, more, mul-suc n f)

-- where a word stands tells its page and its place there
pub page-of : (n f i : ℕ) → i < n → (n * f + i) / n ≡ f
page-of n f i li = ap (λ x. (x + i) / n) (mul_comm n f) ∙ div-mul-add f n i li

pub place-of : (n f i : ℕ) → i < n → (n * f + i) % n ≡ i
place-of n f i li = ap (λ x. (x + i) % n) (mul_comm n f) ∙ mod-mul-add f n i li

pub same-page : (n f g i k : ℕ) → i < n → k < n → n * f + i ≡ n * g + k → f ≡ g
same-page n f g i k li lk e = sym (page-of n f i li) ∙ ap (λ x. x / n) e ∙ page-of n g k lk

-- so many words of so many pages
pub few_words : (n pages : ℕ) → n ≤ 512 → pages ≤ 65536 → n * pages ≤ 33554432
few_words n pages few most = mul-le n pages 512 65536 few most
