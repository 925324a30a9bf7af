-- Lists of pages: those that are chosen, those without some, and the pages after a group's changes.
use Rattle.vm_rule.proofs.Bundled.{has-without_all as without_all-has}
use Rattle.vm_step.proofs.Logical.{page-listed}
use Rattle.vm_step.proofs.Prelude.{[], Agrees, ap, arith, Bool, Change, changed, changed_pages, chosen, Each}
use Rattle.vm_step.proofs.Prelude.{each-upd, false, has, has-both, if◌then◌else◌, length-listed, List, listed}
use Rattle.vm_step.proofs.Prelude.{listed-same, listed-upd, nat_tests, ne_eqb, refl, suc, sym, true, upd, without_all}
use Rattle.vm_step.proofs.Prelude.{zero, ℕ, ◌++◌, ◌<◌, ◌∙◌, ◌∷◌, ◌≡◌, ◌≤◌}
pub use Rattle.vm_owner.proofs.NumberLemmas.{apart-end}

-- ---- lists of numbers

-- what the first of two lists has, both have
pub has-left_of : (q : ℕ) (a b : List ℕ) → has q a ≡ true → has q (a ++ b) ≡ true
has-left_of q a b e = has-both q a b ∙ rw e refl

-- ---- the numbers that are chosen

pub chosen-below : (n : ℕ) (f : ℕ → Bool) (q : ℕ) → n ≤ q → has q (chosen n f) ≡ false
unfolding chosen
chosen-below zero f q l = refl
chosen-below (suc n) f q l = has-both q (chosen n f) (if f n then n ∷ [] else []) ∙ grind (arith, nat_tests, chosen-below n f q)

-- a number below n is chosen where f says so
pub chosen-has : (n : ℕ) (f : ℕ → Bool) (q : ℕ) → q < n → has q (chosen n f) ≡ f q
unfolding chosen
chosen-has zero f q l = absurd (omega arith)
chosen-has (suc n) f q l = has-both q (chosen n f) (if f n then n ∷ [] else [])
    ∙ grind (arith, nat_tests, chosen-below n f q, chosen-has n f q)

pub chosen-same : (n : ℕ) (f g : ℕ → Bool) → ((q : ℕ) → q < n → f q ≡ g q) → chosen n f ≡ chosen n g
unfolding chosen
chosen-same zero f g e = refl
chosen-same (suc n) f g e = rw (chosen-same n f g (λ q l. e q (omega arith)), e n (omega arith)) refl

-- ---- a list without some of its numbers

pub has-without_all : (qs owed : List ℕ) (q : ℕ) → has q (without_all qs owed) ≡ true
    → (has q owed ≡ true) × (has q qs ≡ false)
has-without_all qs owed q some = let is = without_all-has q qs owed in grind (arith, is)

pub has-without_all_other : (qs owed : List ℕ) (q : ℕ) → has q qs ≡ false → has q (without_all qs owed) ≡ has q owed
has-without_all_other qs owed q none = without_all-has q qs owed ∙ rw none refl

pub has-without_all_same : (qs owed : List ℕ) (q : ℕ) → has q qs ≡ true → has q (without_all qs owed) ≡ false
has-without_all_same qs owed q some = without_all-has q qs owed ∙ rw some refl

-- ---- the pages after a group's changes

-- the changes have the words of the pages before
pub listed-agrees : (n : ℕ) (f : ℕ → List ℕ) (cs : List Change) → Each (λ c. (c.page < n) × (f c.page ≡ c.old)) cs
    → Agrees (listed n f) cs
listed-agrees n f [] e = tt
listed-agrees n f (c ∷ cs) e = (rw (length-listed n f) e.0.0, page-listed n f c.page e.0.0 ∙ e.0.1, listed-agrees n f cs e.1)

-- the pages after the changes have the new words of each that changes, and the others as before
pub changed-listed : (n : ℕ) (f g : ℕ → List ℕ) (cs : List Change) → Each (λ c. (c.page < n) × (g c.page ≡ c.new)) cs
    → ((q : ℕ) → q < n → has q (changed_pages cs) ≡ false → g q ≡ f q) → changed cs (listed n f) ≡ listed n g
changed-listed n f g [] new old = listed-same n f g (λ q l. sym (old q l refl))
changed-listed n f g (c ∷ cs) new old =
    ap (changed cs) (sym (listed-upd n f c.page c.new new.0.0))
    ∙ changed-listed n (upd f c.page c.new) g cs new.1
    (each-upd (λ q words. q < n → has q (changed_pages cs) ≡ false → g q ≡ words) f c.page c.new (λ _ _. new.0.1)
    (λ q ne l none. old q l (rw (ne_eqb q c.page ne) none)))
