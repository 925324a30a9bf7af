-- A look for the next page, from the last page down.
use Rattle.std.proofs.Common.{◌≡◌, ℕ, ◌+◌, ◌-◌, ◌<◌, ◌≤◌, inl, inr, List, length, true, false, arith, sym, ◌∙◌}
use Rattle.std.proofs.lemmas.Bool.{cases_eq}
use Rattle.vm_page.specs.Pages.{page_at}
use Rattle.vm_tree_model.specs.Fixed.{fixed}
use Rattle.vm_tree_model.specs.Page.{IsFree}
use Rattle.vm_tree_model.specs.Walk.{is_free}
use Rattle.vm_tree_model.proofs.WordTests.{is_free-tells, is_free-from}

-- the page before is not free
pub used_before : (n : ℕ) (pages : List (List ℕ)) (next p : ℕ) → is_free (fixed n) (page_at pages (next - 1)) ≡ false
    → p + 1 ≡ next → ¬ (IsFree (fixed n) (page_at pages p))
used_before n pages next p failed is free =
    let at : next - 1 ≡ p = omega (arith, is) in
    let passed : is_free (fixed n) (page_at pages p) ≡ true = is_free-from (fixed n) (page_at pages p) free in
    let no : false ≡ true = sym (rw at at failed) ∙ passed in
    cc

-- one page more is free
pub free_before : (n : ℕ) (pages : List (List ℕ)) (next : ℕ) → is_free (fixed n) (page_at pages (next - 1)) ≡ true
    → ((p : ℕ) → next ≤ p → p < length pages → IsFree (fixed n) (page_at pages p)) → (p : ℕ) → next - 1 ≤ p
    → p < length pages → IsFree (fixed n) (page_at pages p)
free_before n pages next passed above p from below = elim (cases_eq p (next - 1)) [
  | inl same ↦ rw same (is_free-tells (fixed n) (page_at pages (next - 1)) passed)
  | inr other ↦ above p (omega (arith, other, from)) below
]
