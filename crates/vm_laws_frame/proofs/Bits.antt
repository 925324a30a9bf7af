-- Bundle bits that are taken and given.
use Rattle.std.specs.Int.{bit_at}
use Rattle.std.specs.Prelude.{bit_xor}
use Rattle.std.proofs.Common.{⊎_elim, ◌%◌, ◌+◌, ◌/◌, ◌<◌, ◌∙◌, ◌≡◌, ◌⊎◌, ap, arith, bit_and, bit_or, eqb, false, inl}
use Rattle.std.proofs.Common.{inr, max, min, sym, true, ℕ}
use Rattle.std.proofs.lemmas.Bool.{and_from, and_left, and_right, cases_eq, eq-eqb, ne_eqb}
use Rattle.std.proofs.lemmas.Nat.Bits.{bit_at-lt, bit_at_and, bit_at_or, bit_at_xor}
use Rattle.vm_event.specs.Prelude.{has_free_bit, in_mask, upd}
use Rattle.vm_event.proofs.{Upd.upd-other, Upd.upd-same}
use Rattle.vm_event.proofs.Masks.{apart}

-- one bit of a word, of a mask among it, and of their difference
bits-cases : (x m y : ℕ) → x < 2 → m < 2 → m ≡ min m x → y ≡ (x + m) % 2 → ((m ≡ 1) × (x ≡ 1) × (y ≡ 0)) ⊎ ((m ≡ 0) × (y ≡ x))
bits-cases x m y bx bm e o =
    ⊎_elim (λ z. inr (z, o ∙ ap (λ v. (x + v) % 2) z ∙ grind arith))
    (λ z. let one : x ≡ 1 = omega arith in let m1 : m ≡ 1 = omega arith in
    inl (m1, one, o ∙ ap (λ v. (v + m) % 2) one ∙ ap (λ v. (1 + v) % 2) m1))
    (cases_eq m 0)

pub taken-bit : (x m i : ℕ) → bit_and m x ≡ m → ((bit_at m i ≡ 1) × (bit_at x i ≡ 1) × (bit_at (bit_xor x m) i ≡ 0))
    ⊎ ((bit_at m i ≡ 0) × (bit_at (bit_xor x m) i ≡ bit_at x i))
taken-bit x m i e =
    bits-cases (bit_at x i) (bit_at m i) (bit_at (bit_xor x m) i) (omega arith) (omega arith)
    (sym (ap (λ y. bit_at y i) e) ∙ bit_at_and m x i) (bit_at_xor x m i)

-- a bundle after a take: the frames of the mask were free, and are not; the others stay
pub taken-free : (bundles : ℕ → ℕ) (g w m f : ℕ) → bundles g ≡ w → bit_and m w ≡ m →
    ((in_mask g m f ≡ true) × (has_free_bit bundles f ≡ true) × (has_free_bit (upd bundles g (bit_xor w m)) f ≡ false))
    ⊎ ((in_mask g m f ≡ false) × (has_free_bit (upd bundles g (bit_xor w m)) f ≡ has_free_bit bundles f))
unfolding has_free_bit in_mask
taken-free bundles g w m f e among =
    ⊎_elim
    (λ s. let new : upd bundles g (bit_xor w m) (f / 64) ≡ bit_xor w m = ap (upd bundles g (bit_xor w m)) s
    ∙ upd-same bundles g (bit_xor w m) in
    let was : bundles (f / 64) ≡ w = ap bundles s ∙ e in
    ⊎_elim
    (λ t. inl (
      and_from _ _ (eq-eqb _ _ s) (eq-eqb _ _ t.0),
      eq-eqb _ _ (ap (λ y. bit_at y (f % 64)) was ∙ t.1),
      ne_eqb (bit_at (upd bundles g (bit_xor w m) (f / 64)) (f % 64)) 1
          (λ q. absurd (apart _ (ap (λ y. bit_at y (f % 64)) new ∙ t.2) q)),
    ))
    (λ t. inr (
      and_right _ _ (ne_eqb (bit_at m (f % 64)) 1 (λ q. absurd (apart _ t.0 q))),
      ap (λ y. eqb y 1) (ap (λ y. bit_at y (f % 64)) new ∙ t.1 ∙ sym (ap (λ y. bit_at y (f % 64)) was)),
    ))
    (taken-bit w m (f % 64) among))
    (λ ne. inr (and_left _ _ (ne_eqb _ _ ne), ap (λ y. eqb (bit_at y (f % 64)) 1) (upd-other bundles g (bit_xor w m) (f / 64) ne)))
    (cases_eq (f / 64) g)

-- one bit of a word and one of a mask, put together
given-bit : (x m i : ℕ) → ((bit_at m i ≡ 1) × (bit_at (bit_or x m) i ≡ 1)) ⊎ ((bit_at m i ≡ 0) × (bit_at (bit_or x m) i ≡ bit_at x i))
given-bit x m i =
    let o : bit_at (bit_or x m) i ≡ max (bit_at x i) (bit_at m i) = bit_at_or x m i in
    let bx : bit_at x i < 2 = bit_at-lt x i in
    let bm : bit_at m i < 2 = bit_at-lt m i in
    ⊎_elim (λ z. inr (z, omega arith)) (λ ne. inl (omega arith, omega arith)) (cases_eq (bit_at m i) 0)

-- a bundle after a give: the frames of the mask are free; the others stay
pub given-free : (bundles : ℕ → ℕ) (g m f : ℕ) →
    ((in_mask g m f ≡ true) × (has_free_bit (upd bundles g (bit_or (bundles g) m)) f ≡ true))
    ⊎ ((in_mask g m f ≡ false) × (has_free_bit (upd bundles g (bit_or (bundles g) m)) f ≡ has_free_bit bundles f))
unfolding has_free_bit in_mask
given-free bundles g m f =
    ⊎_elim
    (λ s. let new : upd bundles g (bit_or (bundles g) m) (f / 64) ≡ bit_or (bundles g) m =
    ap (upd bundles g (bit_or (bundles g) m)) s ∙ upd-same bundles g (bit_or (bundles g) m) in
    let was : bundles (f / 64) ≡ bundles g = ap bundles s in
    ⊎_elim
    (λ t. inl (and_from _ _ (eq-eqb _ _ s) (eq-eqb _ _ t.0), eq-eqb _ _ (ap (λ y. bit_at y (f % 64)) new ∙ t.1)))
    (λ t. inr (
      and_right _ _ (ne_eqb (bit_at m (f % 64)) 1 (λ q. absurd (apart _ t.0 q))),
      ap (λ y. eqb y 1) (ap (λ y. bit_at y (f % 64)) new ∙ t.1 ∙ sym (ap (λ y. bit_at y (f % 64)) was)),
    ))
    (given-bit (bundles g) m (f % 64)))
    (λ ne. inr (and_left _ _ (ne_eqb _ _ ne), ap (λ y. eqb (bit_at y (f % 64)) 1) (upd-other bundles g (bit_or (bundles g) m) (f / 64) ne)))
    (cases_eq (f / 64) g)
