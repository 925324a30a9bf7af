-- A look through the pages for those that are free: one page more.
use Rattle.std.proofs.Common.{[], ◌++◌, ◌+◌, ◌<◌, ◌∙◌, ◌∷◌, ◌≡◌, ◌≤◌, ap, arith, false, get_or, inl, inr, length, List, subst, sym, true, ℕ}
use Rattle.std.specs.{List.Contains, List.Sorted.IsStrictlyIncreasing}
use Rattle.std.proofs.lemmas.Bool.{cases_eq, cases_lt}
use Rattle.std.proofs.lemmas.List.{get_or_append_left, length_push}
use Rattle.std.proofs.lemmas.List.Elements.{Contains-append_left, Contains-get_or, Contains-push, Contains-push_cases}
use Rattle.std.proofs.Math.Seq.{get_or-append_seam}
use Rattle.vm_page.specs.Pages.{page_at}
use Rattle.vm_tree_model.specs.{Fixed.fixed, Page.IsFree, Walk.is_free}
use Rattle.vm_tree_model.proofs.WordTests.{is_free-from, is_free-tells}
use Rattle.vm_image.specs.File.{AreFreePages}

contains-none : (p : ℕ) → ¬ (Contains [] p)
contains-none p (k, below, is) = absurd (omega (arith, below))

-- a number above all others behind them
rising-more : (free : List ℕ) (p : ℕ) → IsStrictlyIncreasing free → ((q : ℕ) → Contains free q → q < p)
    → IsStrictlyIncreasing (free ++ p ∷ [])
rising-more free p rising below k inside =
    let long = length_push free p in
    let first : get_or (free ++ p ∷ []) k 0 ≡ get_or free k 0 = get_or_append_left free (p ∷ []) 0 k (omega (arith, inside, long)) in
    elim (cases_lt (k + 1) (length free)) [
      | inl more ↦
          let second : get_or (free ++ p ∷ []) (k + 1) 0 ≡ get_or free (k + 1) 0 = get_or_append_left free (p ∷ []) 0 (k + 1) more in
          rw (first, second) (rising k more)
      | inr last ↦
          let at : k + 1 ≡ length free = omega (arith, inside, last, long) in
          let second : get_or (free ++ p ∷ []) (k + 1) 0 ≡ p = ap (λ i. get_or (free ++ p ∷ []) i 0) at ∙ get_or-append_seam free p [] 0 in
          rw (first, second) (below (get_or free k 0) (Contains-get_or free k 0 (omega (arith, at))))
    ]

module _ (n : ℕ) (pages : List (List ℕ)) where
  -- there are no pages from 1 to below 1
  pub none_free : AreFreePages n pages 1 []
  none_free = record {
    rising = λ k inside. absurd (omega (arith, inside));
    each = λ p there. absurd (contains-none p there);
    all = λ p low high free. absurd (omega (arith, low, high));
  }

  -- the look has come to the next page, or there was none from 1 on
  pub free_below : (next p : ℕ) (free : List ℕ) → next ≤ p → (1 ≤ next → p ≤ next) → (next < 1 → p ≤ 1)
      → AreFreePages n pages p free → AreFreePages n pages next free
  free_below next p free past last none are = record {
    rising = are.rising;
    each = λ q there.
        let one = are.each q there in
        let within : q < next = elim (cases_lt next 1) [
          | inl few ↦ absurd (omega (arith, one.0, one.1, none few))
          | inr some ↦ omega (arith, one.1, last some)
        ] in
        (one.0, within, one.2);
    all = λ q from below is. are.all q from (omega (arith, below, past)) is;
  }

  module _ (p : ℕ) (free : List ℕ) (before : AreFreePages n pages p free) where
    pub free_more : 1 ≤ p → is_free (fixed n) (page_at pages p) ≡ true → AreFreePages n pages (p + 1) (free ++ p ∷ [])
    free_more low passed =
        let here : IsFree (fixed n) (page_at pages p) = is_free-tells (fixed n) (page_at pages p) passed in
        record {
          rising = rising-more free p before.rising (λ q there. (before.each q there).1);
          each = λ q there. elim (Contains-push_cases free p q there) [
            | inl old ↦ let one = before.each q old in (one.0, omega (arith, one.1), one.2)
            | inr same ↦ subst (λ k. (1 ≤ k) × (k < p + 1) × IsFree (fixed n) (page_at pages k)) same (low, omega arith, here)
          ];
          all = λ q from below is. elim (cases_eq q p) [
            | inl same ↦ subst (Contains (free ++ p ∷ [])) (sym same) (Contains-push free p)
            | inr other ↦ Contains-append_left free (p ∷ []) q (before.all q from (omega (arith, below, other)) is)
          ];
        }

    pub free_passed : is_free (fixed n) (page_at pages p) ≡ false → AreFreePages n pages (p + 1) free
    free_passed failed = record {
      rising = before.rising;
      each = λ q there. let one = before.each q there in (one.0, omega (arith, one.1), one.2);
      all = λ q from below is. elim (cases_eq q p) [
        | inl same ↦ absurd (let passed : is_free (fixed n) (page_at pages p) ≡ true =
            is_free-from (fixed n) (page_at pages p) (subst (λ k. IsFree (fixed n) (page_at pages k)) same is) in
            let no : false ≡ true = sym failed ∙ passed in cc)
        | inr other ↦ before.all q from (omega (arith, below, other)) is
      ];
    }
