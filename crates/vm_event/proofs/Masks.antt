-- Frames that are set and cleared in mask words.
use Rattle.std.specs.Int.{bit_at, bit_not, w64}
use Rattle.std.proofs.Common.{⊎_elim, ◌%◌, ◌&&◌, ◌*◌, ◌+◌, ◌-◌, ◌/◌, ◌<◌, ◌^◌, ◌∙◌, ◌≡◌, ap, arith, bit_and}
use Rattle.std.proofs.Common.{bit_or, cond, eqb, false, max, min}
use Rattle.std.proofs.Common.{sym, true, true≢false, ℕ, ◌≢◌}
use Rattle.std.proofs.lemmas.Bool.{and_from, and_left, and_parts, cases_eq, cases_lt, cond-false, cond-true, eq-eqb, eqb-true, ne_eqb}
use Rattle.std.proofs.lemmas.Nat.Bits.{bit_at-lt, bit_at-zero, bit_at_above, bit_at_and, bit_at_clear_other}
use Rattle.std.proofs.lemmas.Nat.Bits.{bit_at_clear_same, bit_at_not, bit_at_or, bit_at_set_other, bit_at_set_same}
use Rattle.std.proofs.lemmas.Nat.Bits.{same_from_bits}
use mathlib.Core.Path.{fun_ext}
use Rattle.vm_event.specs.Prelude.{cleared, has_free_bit, in_mask}
use Rattle.vm_event.specs.Prelude.{upd}
use Rattle.vm_event.proofs.Upd.{upd-other, upd-same}

-- a bit is not 0 and 1
pub apart : (n : ℕ) → n ≡ 0 → n ≡ 1 → ⊥
apart n z o = omega arith

same-place : (j f : ℕ) → j / 64 ≡ f / 64 → j % 64 ≡ f % 64 → j ≡ f
same-place j f q r = omega arith

-- the larger of two bits
max-bit : (x m : ℕ) → x < 2 → m < 2 → eqb (max x m) 1 ≡ cond (eqb m 1) true (eqb x 1)
max-bit x m bx bm =
    ⊎_elim (λ o. ap (λ v. eqb (max x v) 1) o ∙ eq-eqb (max x 1) 1 (omega arith) ∙ sym (cond-true (eqb m 1) true (eqb x 1) (eq-eqb m 1 o)))
    (λ z. let zero' : m ≡ 0 = omega arith in ap (λ v. eqb v 1) (let e : max x m ≡ x = omega arith in e)
    ∙ sym (cond-false (eqb m 1) true (eqb x 1) (ne_eqb m 1 z)))
    (cases_eq m 1)

-- one bit is cleared
pub cleared-free : (words : ℕ → ℕ) (f x : ℕ) → words (f / 64) ≡ x
    → has_free_bit (upd words (f / 64) (bit_and x (bit_not w64 (1 * 2 ^ (f % 64) % 2 ^ 64)))) ≡ upd
    (has_free_bit words) f false
unfolding has_free_bit
cleared-free words f x e =
    fun_ext (λ j. ⊎_elim
    (λ s. ⊎_elim
    (λ t. let same : j ≡ f = same-place j f s t in
    let z : bit_at (upd words (f / 64) y (j / 64)) (j % 64) ≡ 0 = ap (λ k. bit_at (upd words (f / 64) y k) (j % 64)) s
    ∙ ap (λ v. bit_at v (j % 64)) (upd-same words (f / 64) y) ∙ ap (bit_at y) t ∙ bit_at_clear_same w64 x (f % 64)
    (omega arith) in
    ne_eqb (bit_at (upd words (f / 64) y (j / 64)) (j % 64)) 1 (λ q. apart _ z q)
    ∙ sym (ap (upd (λ g. eqb (bit_at (words (g / 64)) (g % 64)) 1) f false) same
    ∙ upd-same (λ g. eqb (bit_at (words (g / 64)) (g % 64)) 1) f false))
    (λ ne. ap (λ v. eqb v 1) (ap (λ k. bit_at (upd words (f / 64) y k) (j % 64)) s ∙ ap (λ v. bit_at v (j % 64))
    (upd-same words (f / 64) y) ∙ bit_at_clear_other w64 x (f % 64) (omega arith) (j % 64) (omega arith) ne
    ∙ sym (ap (λ v. bit_at v (j % 64)) (ap words s ∙ e)))
    ∙ sym (upd-other (λ g. eqb (bit_at (words (g / 64)) (g % 64)) 1) f false j (λ q. ne (ap (λ v. v % 64) q))))
    (cases_eq (j % 64) (f % 64)))
    (λ ne. ap (λ v. eqb (bit_at v (j % 64)) 1) (upd-other words (f / 64) y (j / 64) ne)
    ∙ sym (upd-other (λ g. eqb (bit_at (words (g / 64)) (g % 64)) 1) f false j (λ q. ne (ap (λ v. v / 64) q))))
    (cases_eq (j / 64) (f / 64)))
  where
    y : ℕ
    y = bit_and x (bit_not w64 (1 * 2 ^ (f % 64) % 2 ^ 64))

-- one bit is set
pub inserted-free : (words : ℕ → ℕ) (f x : ℕ) → words (f / 64) ≡ x
    → has_free_bit (upd words (f / 64) (bit_or x (1 * 2 ^ (f % 64) % 2 ^ 64))) ≡ upd (has_free_bit words) f true
unfolding has_free_bit
inserted-free words f x e =
    fun_ext (λ j. ⊎_elim
    (λ s. ⊎_elim
    (λ t. let same : j ≡ f = same-place j f s t in
    let o : bit_at (upd words (f / 64) y (j / 64)) (j % 64) ≡ 1 = ap (λ k. bit_at (upd words (f / 64) y k) (j % 64)) s
    ∙ ap (λ v. bit_at v (j % 64)) (upd-same words (f / 64) y) ∙ ap (bit_at y) t ∙ bit_at_set_same w64 x (f % 64)
    (omega arith) in
    eq-eqb (bit_at (upd words (f / 64) y (j / 64)) (j % 64)) 1 o
    ∙ sym (ap (upd (λ g. eqb (bit_at (words (g / 64)) (g % 64)) 1) f true) same
    ∙ upd-same (λ g. eqb (bit_at (words (g / 64)) (g % 64)) 1) f true))
    (λ ne. ap (λ v. eqb v 1) (ap (λ k. bit_at (upd words (f / 64) y k) (j % 64)) s ∙ ap (λ v. bit_at v (j % 64))
    (upd-same words (f / 64) y) ∙ bit_at_set_other w64 x (f % 64) (omega arith) (j % 64) ne
    ∙ sym (ap (λ v. bit_at v (j % 64)) (ap words s ∙ e)))
    ∙ sym (upd-other (λ g. eqb (bit_at (words (g / 64)) (g % 64)) 1) f true j (λ q. ne (ap (λ v. v % 64) q))))
    (cases_eq (j % 64) (f % 64)))
    (λ ne. ap (λ v. eqb (bit_at v (j % 64)) 1) (upd-other words (f / 64) y (j / 64) ne)
    ∙ sym (upd-other (λ g. eqb (bit_at (words (g / 64)) (g % 64)) 1) f true j (λ q. ne (ap (λ v. v / 64) q))))
    (cases_eq (j / 64) (f / 64)))
  where
    y : ℕ
    y = bit_or x (1 * 2 ^ (f % 64) % 2 ^ 64)

-- the bits of a mask are set
pub added-free : (words : ℕ → ℕ) (g m f : ℕ) → has_free_bit (upd words g (bit_or (words g) m)) f ≡ cond
    (in_mask g m f) true (has_free_bit words f)
unfolding has_free_bit in_mask
added-free words g m f =
    ⊎_elim
    (λ s. let new : upd words g (bit_or (words g) m) (f / 64) ≡ bit_or (words g) m =
    ap (upd words g (bit_or (words g) m)) s ∙ upd-same words g (bit_or (words g) m) in
    let bits : bit_at (upd words g (bit_or (words g) m) (f / 64)) (f % 64) ≡ max (bit_at (words g) (f % 64))
    (bit_at m (f % 64)) = ap (λ y. bit_at y (f % 64)) new ∙ bit_at_or (words g) m (f % 64) in
    let was : bit_at (words (f / 64)) (f % 64) ≡ bit_at (words g) (f % 64) = ap (λ k. bit_at (words k) (f % 64)) s in
    ap (λ v. eqb v 1) bits ∙ max-bit (bit_at (words g) (f % 64)) (bit_at m (f % 64)) (bit_at-lt _ _) (bit_at-lt _ _)
    ∙ ap (λ v. cond v true (eqb (bit_at (words g) (f % 64)) 1)) (sym (ap (λ v. v && eqb (bit_at m (f % 64)) 1) (eq-eqb (f / 64) g s)))
    ∙ ap (λ v. cond (eqb (f / 64) g && eqb (bit_at m (f % 64)) 1) true (eqb v 1)) (sym was))
    (λ ne. ap (λ y. eqb (bit_at y (f % 64)) 1) (upd-other words g _ (f / 64) ne)
    ∙ sym (cond-false _ true _ (and_left _ _ (ne_eqb (f / 64) g ne))))
    (cases_eq (f / 64) g)

-- a bit that stays where the mask has none
min-bit : (x m : ℕ) → x < 2 → m < 2 → eqb (min x (1 - m)) 1 ≡ cond (eqb m 1) false (eqb x 1)
min-bit x m bx bm =
    ⊎_elim (λ o. ne_eqb (min x (1 - m)) 1 (λ q. absurd (omega arith)) ∙ sym (cond-true (eqb m 1) false (eqb x 1) (eq-eqb m 1 o)))
    (λ z. ap (λ v. eqb v 1) (let e : min x (1 - m) ≡ x = omega arith in e) ∙ sym (cond-false (eqb m 1) false (eqb x 1) (ne_eqb m 1 z)))
    (cases_eq m 1)

-- the bits of a mask are cleared
pub removed-free : (words : ℕ → ℕ) (g x m f : ℕ) → words g ≡ x → m < 2 ^ 64
    → has_free_bit (upd words g (bit_and x (bit_not w64 m))) f ≡ cond (in_mask g m f) false (has_free_bit words f)
unfolding has_free_bit in_mask
removed-free words g x m f e lt =
    ⊎_elim
    (λ s. let new : upd words g y (f / 64) ≡ y = ap (upd words g y) s ∙ upd-same words g y in
    let bits : bit_at (upd words g y (f / 64)) (f % 64) ≡ min (bit_at x (f % 64)) (1 - bit_at m (f % 64)) =
    ap (λ v. bit_at v (f % 64)) new ∙ bit_at_and x (bit_not w64 m) (f % 64) ∙ ap (min (bit_at x (f % 64)))
    (bit_at_not w64 m (f % 64) lt (omega arith)) in
    let was : bit_at (words (f / 64)) (f % 64) ≡ bit_at x (f % 64) = ap (λ v. bit_at v (f % 64)) (ap words s ∙ e) in
    ap (λ v. eqb v 1) bits ∙ min-bit (bit_at x (f % 64)) (bit_at m (f % 64)) (bit_at-lt _ _) (bit_at-lt _ _)
    ∙ ap (λ v. cond v false (eqb (bit_at x (f % 64)) 1)) (sym (ap (λ v. v && eqb (bit_at m (f % 64)) 1) (eq-eqb (f / 64) g s)))
    ∙ ap (λ v. cond (eqb (f / 64) g && eqb (bit_at m (f % 64)) 1) false (eqb v 1)) (sym was))
    (λ ne. ap (λ v. eqb (bit_at v (f % 64)) 1) (upd-other words g y (f / 64) ne)
    ∙ sym (cond-false _ false _ (and_left _ _ (ne_eqb (f / 64) g ne))))
    (cases_eq (f / 64) g)
  where
    y : ℕ
    y = bit_and x (bit_not w64 m)

-- the mask is among the bits of a word exactly where each of its frames is in the set
pub all-held : (words : ℕ → ℕ) (g x m : ℕ) → words g ≡ x → m < 2 ^ 64
    → (bit_and m x ≡ m → (f : ℕ) → in_mask g m f ≡ true → has_free_bit words f ≡ true)
    × (((f : ℕ) → in_mask g m f ≡ true → has_free_bit words f ≡ true) → bit_and m x ≡ m)
unfolding has_free_bit in_mask
all-held words g x m e lt = (
  (λ among f q. let parts : (eqb (f / 64) g ≡ true) × (eqb (bit_at m (f % 64)) 1 ≡ true) = and_parts _ _ q in
      let one : bit_at m (f % 64) ≡ 1 = eqb-true _ _ parts.1 in
      let both : bit_at m (f % 64) ≡ min (bit_at m (f % 64)) (bit_at x (f % 64)) =
      ap (λ v. bit_at v (f % 64)) (sym among) ∙ bit_at_and m x (f % 64) in
      let small : bit_at x (f % 64) < 2 = bit_at-lt x (f % 64) in
      let here : bit_at x (f % 64) ≡ 1 = omega arith in
      eq-eqb _ _ (ap (λ v. bit_at v (f % 64)) (ap words (eqb-true _ _ parts.0) ∙ e) ∙ here)),
  (λ held. same_from_bits (bit_and m x) m (λ i. bit_at_and m x i ∙ each held i)),
)
  where
    each : ((f : ℕ) → (eqb (f / 64) g && eqb (bit_at m (f % 64)) 1) ≡ true → eqb (bit_at (words (f / 64)) (f % 64))
        1 ≡ true) → (i : ℕ) → min (bit_at m i) (bit_at x i) ≡ bit_at m i
    each held i =
        let small : bit_at m i < 2 = bit_at-lt m i in
        ⊎_elim
        (λ low. ⊎_elim
        (λ one. let q : (64 * g + i) / 64 ≡ g = omega arith in
        let r : (64 * g + i) % 64 ≡ i = omega arith in
        let h : bit_at (words ((64 * g + i) / 64)) ((64 * g + i) % 64) ≡ 1 =
        eqb-true _ _ (held (64 * g + i) (and_from _ _ (eq-eqb _ _ q) (eq-eqb _ _ (ap (bit_at m) r ∙ one)))) in
        let here : bit_at x i ≡ 1 = sym (ap (λ v. bit_at v i) (ap words q ∙ e)) ∙ sym (ap (bit_at (words ((64 * g + i) / 64))) r) ∙ h in
        omega arith)
        (λ ne. omega arith)
        (cases_eq (bit_at m i) 1))
        (λ high. let none : bit_at m i ≡ 0 = bit_at_above m 64 i lt high in omega arith)
        (cases_lt i 64)

-- the mask has none of a word's bits exactly where none of its frames is in the set
pub none-held : (words : ℕ → ℕ) (g x m : ℕ) → words g ≡ x → m < 2 ^ 64
    → (bit_and m x ≡ 0 → (f : ℕ) → in_mask g m f ≡ true → has_free_bit words f ≡ false)
    × (((f : ℕ) → in_mask g m f ≡ true → has_free_bit words f ≡ false) → bit_and m x ≡ 0)
unfolding has_free_bit in_mask
none-held words g x m e lt = (
  (λ none f q. let parts : (eqb (f / 64) g ≡ true) × (eqb (bit_at m (f % 64)) 1 ≡ true) = and_parts _ _ q in
      let one : bit_at m (f % 64) ≡ 1 = eqb-true _ _ parts.1 in
      let both : min (bit_at m (f % 64)) (bit_at x (f % 64)) ≡ 0 = sym (bit_at_and m x (f % 64))
      ∙ ap (λ v. bit_at v (f % 64)) none ∙ bit_at-zero (f % 64) in
      let here : bit_at x (f % 64) ≡ 0 = omega (arith, one, both) in
      let was : bit_at (words (f / 64)) (f % 64) ≡ bit_at x (f % 64) = ap (λ v. bit_at v (f % 64)) (ap words (eqb-true _ _ parts.0) ∙ e) in
      ne_eqb (bit_at (words (f / 64)) (f % 64)) 1 (λ set. omega (arith, was, here, set))),
  (λ free. same_from_bits (bit_and m x) 0 (λ i. bit_at_and m x i ∙ each free i ∙ sym (bit_at-zero i))),
)
  where
    each : ((f : ℕ) → (eqb (f / 64) g && eqb (bit_at m (f % 64)) 1) ≡ true → eqb (bit_at (words (f / 64)) (f % 64))
        1 ≡ false) → (i : ℕ) → min (bit_at m i) (bit_at x i) ≡ 0
    each free i =
        let small : bit_at m i < 2 = bit_at-lt m i in
        let word : bit_at x i < 2 = bit_at-lt x i in
        ⊎_elim
        (λ low. ⊎_elim
        (λ one. let q : (64 * g + i) / 64 ≡ g = omega (arith, low) in
        let r : (64 * g + i) % 64 ≡ i = omega (arith, low) in
        let h : eqb (bit_at (words ((64 * g + i) / 64)) ((64 * g + i) % 64)) 1 ≡ false =
        free (64 * g + i) (and_from _ _ (eq-eqb _ _ q) (eq-eqb _ _ (ap (bit_at m) r ∙ one))) in
        let here : eqb (bit_at x i) 1 ≡ false = sym (ap (λ v. eqb (bit_at v i) 1) (ap words q ∙ e))
        ∙ sym (ap (λ j. eqb (bit_at (words ((64 * g + i) / 64)) j) 1) r) ∙ h in
        let ne : bit_at x i ≢ 1 = λ set. true≢false (sym (eq-eqb _ _ set) ∙ here) in
        omega (arith, word, ne))
        (λ ne. omega (arith, small, ne))
        (cases_eq (bit_at m i) 1))
        (λ high. let none : bit_at m i ≡ 0 = bit_at_above m 64 i lt high in omega (arith, none))
        (cases_lt i 64)
