-- The numbers of one page, and of two that follow each other.
use Rattle.vm_guard.proofs.{Amid.other, Seizing.self-has}
use Rattle.vm_guard.proofs.Prelude.{[], ap, arith, Bool, eq-eqb, false, has, ne_eqb, numbers, refl, suc, true, ℕ, ◌+◌, ◌||◌, ◌∙◌, ◌∷◌, ◌≡◌}

pub numbers-one : (x : ℕ) → numbers x 1 ≡ x ∷ []
unfolding numbers
numbers-one x = refl

pub numbers-two : (x : ℕ) → numbers x 2 ≡ x ∷ (x + 1) ∷ []
unfolding numbers
numbers-two x = (let e : suc x ≡ x + 1 = omega arith in λ i. x ∷ e i ∷ [])

-- the first page is not the second, nor the second the first
pub apart-first : (x : ℕ) → has x ((x + 1) ∷ []) ≡ false
apart-first x = ap (λ (b : Bool). b || false) (ne_eqb x (x + 1) (λ e. absurd (omega (arith, e))))

pub apart-second : (x : ℕ) → has (x + 1) (x ∷ []) ≡ false
apart-second x = ap (λ (b : Bool). b || false) (ne_eqb (x + 1) x (λ e. absurd (omega (arith, e))))

pub both-first : (x : ℕ) → has x (x ∷ (x + 1) ∷ []) ≡ true
both-first x = ap (λ (b : Bool). b || has x ((x + 1) ∷ [])) (eq-eqb x x refl)

pub within-first : (x q : ℕ) → has q (x ∷ (x + 1) ∷ []) ≡ false → has q (x ∷ []) ≡ false
within-first x q none = ap (λ (b : Bool). b || false) (ne_eqb q x (other x q (x ∷ (x + 1) ∷ []) (both-first x) none))

pub both-second : (x : ℕ) → has (x + 1) (x ∷ (x + 1) ∷ []) ≡ true
both-second x = ap (λ (b : Bool). b || has (x + 1) ((x + 1) ∷ [])) (ne_eqb (x + 1) x (λ e. absurd (omega (arith, e)))) ∙ self-has (x + 1)

pub within-second : (x q : ℕ) → has q (x ∷ (x + 1) ∷ []) ≡ false → has q ((x + 1) ∷ []) ≡ false
within-second x q none = ap (λ (b : Bool). b || false) (ne_eqb q (x + 1) (other (x + 1) q (x ∷ (x + 1) ∷ []) (both-second x) none))
