-- The pages owed, by rising number: a claim adds its pages at the end, and a release takes its pages out.
use Rattle.vm_step.proofs.Groups.{chosen-same}
use Rattle.vm_step.proofs.Prelude.{[], ap, append-none, arith, Bool, cases_lt, Change, changed_pages, chosen, claimed}
use Rattle.vm_step.proofs.Prelude.{each-upd, eq-eqb, false, has, if◌then◌else◌, Kept, List, nat_tests, ne_eqb}
use Rattle.vm_step.proofs.Prelude.{or_right, owed_after, refl, suc, sym, true, upd, upd-other, upd-same, without}
use Rattle.vm_step.proofs.Prelude.{without-both, zero, ℕ, ⊎_elim, ◌++◌, ◌+◌, ◌<◌, ◌==◌, ◌∙◌, ◌∷◌, ◌≡◌, ◌≢◌, ◌≤◌}

-- one number, if b says so
abbrev one : Bool → ℕ → List ℕ
one b n = if b then n ∷ [] else []

-- ---- a claim

-- one number more is chosen, behind all others
chosen-more : (n : ℕ) (f g : ℕ → Bool) (k : ℕ) → k < n → ((q : ℕ) → q < k → g q ≡ f q) → g k ≡ true
    → ((q : ℕ) → k ≤ q → q < n → f q ≡ false)
    → ((q : ℕ) → k < q → q < n → g q ≡ false) → chosen n g ≡ chosen n f ++ k ∷ []
unfolding chosen
chosen-more zero f g k l low here none after = absurd (omega (arith, l))
chosen-more (suc n) f g k l low here none after =
    let same : k ≡ n → chosen n g ≡ chosen n f = λ e. chosen-same n g f (λ q lt. low q (omega (arith, lt, e))) in
    let more : k < n → chosen n g ≡ chosen n f ++ k ∷ [] =
    λ lt. chosen-more n f g k lt low here (λ q le lt'. none q le (omega (arith, lt')))
    (λ q le lt'. after q le (omega (arith, lt'))) in
    let no : f n ≡ false = none n (omega (arith, l)) (omega arith) in
    let past : k < n → g n ≡ false = λ lt. after n lt (omega arith) in
    let is : k ≡ n → g n ≡ true = λ e. ap g (sym e) ∙ here in
    grind (arith, append-none)

module _ {S : Type 0} where
  -- the numbers for which f says so are owed, all below the next one; then those for which g does, which are the next
  -- n more
  pub claimed-chosen : (n m : ℕ) (kept : Kept S) (f g : ℕ → Bool) → kept.owed ≡ chosen m f → kept.next + n ≤ m
      → ((q : ℕ) → q < kept.next → g q ≡ f q)
      → ((q : ℕ) → kept.next ≤ q → q < m → f q ≡ false) → ((q : ℕ) → kept.next ≤ q → q < kept.next + n → g q ≡ true)
      → ((q : ℕ) → kept.next + n ≤ q → q < m → g q ≡ false)
      → (claimed n kept).owed ≡ chosen m g
  claimed-chosen zero m kept f g is inside low none here past =
      is ∙ chosen-same m f g (λ q l. ⊎_elim (λ lt. sym (low q lt))
      (λ le. none q le l ∙ sym (past q (omega (arith, le)) l)) (cases_lt q kept.next))
  claimed-chosen (suc n) m kept f g is inside low none here past =
      let more : kept.owed ++ kept.next ∷ [] ≡ chosen m (upd f kept.next true) =
      ap (λ l. l ++ kept.next ∷ []) is
      ∙ sym (chosen-more m f (upd f kept.next true) kept.next (omega (arith, inside))
      (λ q l. upd-other f kept.next true q (λ e. omega (arith, e, l))) (upd-same f kept.next true) none
      (λ q l lt. upd-other f kept.next true q (λ e. omega (arith, e, l)) ∙ none q (omega (arith, l)) lt)) in
      claimed-chosen n m (record kept {
        next = kept.next + 1;
        owed = kept.owed ++ kept.next ∷ [];
      }) (upd f kept.next true) g more (omega (arith, inside))
      (each-upd (λ q b. q < kept.next + 1 → g q ≡ b) f kept.next true
      (λ _. here kept.next (omega arith) (omega arith)) (λ q ne l. low q (omega (arith, l, ne))))
      (λ q le l. upd-other f kept.next true q (λ e. omega (arith, e, le)) ∙ none q (omega (arith, le)) l)
      (λ q le l. here q (omega (arith, le)) (omega (arith, l)))
      (λ q le l. past q (omega (arith, le)) l)

-- ---- a release

-- one number less is chosen
chosen-less : (n : ℕ) (f g : ℕ → Bool) (k : ℕ) → ((q : ℕ) → q < n → q ≡ k → g q ≡ false)
    → ((q : ℕ) → q < n → q ≢ k → g q ≡ f q) → without k (chosen n f) ≡ chosen n g
unfolding chosen
chosen-less zero f g k here other = refl
chosen-less (suc n) f g k here other =
    let last : without k (one (f n) n) ≡ one (g n) n = grind (arith, nat_tests, here n (omega arith), other n (omega arith)) in
    without-both k (chosen n f) (one (f n) n)
    ∙ (λ i. chosen-less n f g k (λ q l. here q (omega (arith, l))) (λ q l. other q (omega (arith, l))) i ++ last
    i)

-- the numbers for which f says so are owed; then those for which g does, which are they but the pages of the changes
pub owed_after-chosen : (cs : List Change) (n : ℕ) (f g : ℕ → Bool)
    → ((q : ℕ) → q < n → has q (changed_pages cs) ≡ true → g q ≡ false)
    → ((q : ℕ) → q < n → has q (changed_pages cs) ≡ false → g q ≡ f q)
    → owed_after cs (chosen n f) ≡ chosen n g
owed_after-chosen [] n f g gone other = chosen-same n f g (λ q l. sym (other q l refl))
owed_after-chosen (c ∷ cs) n f g gone other =
    ap (owed_after cs) (chosen-less n f (upd f c.page false) c.page
    (λ q _ e. ap (upd f c.page false) e ∙ upd-same f c.page false) (λ q _ ne. upd-other f c.page false q ne))
    ∙ owed_after-chosen cs n (upd f c.page false) g
    (λ q l some. gone q l (or_right (q == c.page) (has q (changed_pages cs)) some))
    (λ q l none. each-upd (λ j b. j ≡ q → g q ≡ b) f c.page false (λ e. gone q l (rw (eq-eqb q c.page (sym e)) refl))
    (λ j ne e. other q l (rw (ne_eqb q c.page (λ s. ne (e ∙ s))) none) ∙ ap f (sym e)) q refl)
