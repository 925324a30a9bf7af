-- The frames, or pages, whose bits are set in a mask over a word of the table: as many as bits are set there, by
-- rising number.
use Rattle.std.specs.Int.{bit_at}
use Rattle.std.proofs.Common.{[], ⊎_elim, ◌*◌, ◌++◌, ◌+◌, ◌<◌, ◌||◌, ◌∙◌, ◌∷◌, ◌≡◌, ◌≢◌, ap, arith, Bool, eqb, false}
use Rattle.std.proofs.Common.{if◌then◌else◌, length, List, refl, suc, sym, true, zero, ℕ}
use Rattle.std.proofs.lemmas.Bool.{cases_Bool, cases_eq, eq-eqb, false≢true, ne_eqb}
use Rattle.std.proofs.lemmas.List.{length-append}
use Rattle.std.proofs.lemmas.Nat.Bits.{bit_at-lt, bit_at-zero}
use Rattle.vm_event.specs.Prelude.{sum_below}
use Rattle.vm_event.specs.Words.{bit_count}
use Rattle.vm_owner.specs.Numbers.{has}
use Rattle.vm_rule.specs.Bundles.{frames_below, frames_in}
use Rattle.vm_rule.proofs.{Entries.append-none, Facts.has-both}

below-next : (i g mask : ℕ) → frames_below (i + 1) g mask ≡ frames_below i g
    mask ++ (if eqb (bit_at mask i) 1 then (64 * g + i) ∷ [] else [])
below-next i g mask = let e : i + 1 ≡ suc i = omega arith in ap (λ n. frames_below n g mask) e

-- one more of the first bits is set
pub below-set : (i g mask : ℕ) → bit_at mask i ≡ 1
    → frames_below (i + 1) g mask ≡ frames_below i g mask ++ (64 * g + i) ∷ []
below-set i g mask e = below-next i g mask ∙ ap (λ b. frames_below i g mask ++ (if b then (64 * g + i) ∷ [] else []))
    (eq-eqb (bit_at mask i) 1 e)

-- it is not
pub below-clear : (i g mask : ℕ) → bit_at mask i ≢ 1 → frames_below (i + 1) g mask ≡ frames_below i g mask
below-clear i g mask ne = below-next i g mask
    ∙ ap (λ b. frames_below i g mask ++ (if b then (64 * g + i) ∷ [] else [])) (ne_eqb (bit_at mask i) 1 ne)
    ∙ append-none (frames_below i g mask)

pub all-below : (g mask : ℕ) → frames_below 64 g mask ≡ frames_in g mask
unfolding frames_in
all-below g mask = refl

-- ---- how many

pub no-bit : bit_count 0 ≡ 0
unfolding sum_below
no-bit = none 64
  where
    none : (n : ℕ) → sum_below n (bit_at 0) ≡ 0
    none zero = refl
    none (suc n) = let before : sum_below n (bit_at 0) ≡ 0 = none n in let bit : bit_at 0 n ≡ 0 = bit_at-zero n in
        omega (arith, before, bit)

count-below : (n g mask : ℕ) → length (frames_below n g mask) ≡ sum_below n (bit_at mask)
unfolding sum_below
count-below zero g mask = refl
count-below (suc n) g mask =
    let before : length (frames_below n g mask) ≡ sum_below n (bit_at mask) = count-below n g mask in
    let small : bit_at mask n < 2 = bit_at-lt mask n in
    let next : n + 1 ≡ suc n = omega arith in
    ap (λ k. length (frames_below k g mask)) (sym next)
    ∙ ⊎_elim
    (λ (set : bit_at mask n ≡ 1).
    let longer : length (frames_below n g mask ++ (64 * g + n) ∷ []) ≡ length (frames_below n g mask) + 1 =
    length-append (frames_below n g mask) ((64 * g + n) ∷ []) in
    ap length (below-set n g mask set)
    ∙ (let e : length (frames_below n g mask ++ (64 * g + n) ∷ []) ≡ sum_below n (bit_at mask) + bit_at mask n =
    omega (arith, longer, before, set) in e))
    (λ (clear : bit_at mask n ≢ 1). ap length (below-clear n g mask clear)
    ∙ (let e : length (frames_below n g mask) ≡ sum_below n (bit_at mask) + bit_at mask n =
    omega (arith, before, small, clear) in e))
    (cases_eq (bit_at mask n) 1)

pub mask-count : (g mask : ℕ) → length (frames_in g mask) ≡ bit_count mask
mask-count g mask = ap length (sym (all-below g mask)) ∙ count-below 64 g mask

-- ---- in which order

in-one : (f x : ℕ) → has f (x ∷ []) ≡ true → f ≡ x
in-one f x e = ⊎_elim (λ (same : f ≡ x). same)
    (λ (ne : f ≢ x). absurd (false≢true (sym (ap (λ (b : Bool). b || false) (ne_eqb f x ne)) ∙ e))) (cases_eq f x)

below-high : (n g mask f : ℕ) → has f (frames_below n g mask) ≡ true → f < 64 * g + n
below-high zero g mask f e = absurd (false≢true e)
below-high (suc n) g mask f e =
    let next : n + 1 ≡ suc n = omega arith in
    let here : has f (frames_below (n + 1) g mask) ≡ true = ap (λ k. has f (frames_below k g mask)) next ∙ e in
    ⊎_elim
    (λ (t : has f (frames_below n g mask) ≡ true). let low : f < 64 * g + n = below-high n g mask f t in omega (arith, low))
    (λ (none : has f (frames_below n g mask) ≡ false).
    ⊎_elim
    (λ (set : bit_at mask n ≡ 1).
    let last : has f ((64 * g + n) ∷ []) ≡ true = sym (ap (λ b. b || has f ((64 * g + n) ∷ [])) none)
    ∙ sym (has-both f (frames_below n g mask) ((64 * g + n) ∷ [])) ∙ ap (has f) (sym (below-set n g mask set))
    ∙ here in
    let same : f ≡ 64 * g + n = in-one f (64 * g + n) last in
    omega (arith, same))
    (λ (clear : bit_at mask n ≢ 1). absurd (false≢true (sym none ∙ ap (has f) (sym (below-clear n g mask clear)) ∙ here)))
    (cases_eq (bit_at mask n) 1))
    (cases_Bool (has f (frames_below n g mask)))

last-two : (l : List ℕ) (x y z : ℕ) → l ++ x ∷ [] ≡ y ∷ z ∷ [] → (l ≡ y ∷ []) × (z ≡ x)
last-two [] x y z e = absurd (let k : 1 ≡ 2 = ap (λ (m : List ℕ). length m) e in omega (arith, k))
last-two (a ∷ []) x y z e = let one : a ≡ y = cc in let two : z ≡ x = cc in ((λ i. one i ∷ []), two)
last-two (a ∷ b ∷ l) x y z e =
    absurd (let k = ap (λ (m : List ℕ). length m) e in let long = length-append l (x ∷ []) in omega (arith, k, long))

-- of two of them the first is the lower one
pub mask-rises : (n g mask y z : ℕ) → frames_below n g mask ≡ y ∷ z ∷ [] → y < z
mask-rises zero g mask y z e = absurd (let k : 0 ≡ 2 = ap (λ (m : List ℕ). length m) e in omega (arith, k))
mask-rises (suc n) g mask y z e =
    let next : n + 1 ≡ suc n = omega arith in
    let here : frames_below (n + 1) g mask ≡ y ∷ z ∷ [] = ap (λ k. frames_below k g mask) next ∙ e in
    ⊎_elim
    (λ (set : bit_at mask n ≡ 1).
    let k = last-two (frames_below n g mask) (64 * g + n) y z (sym (below-set n g mask set) ∙ here) in
    let low : y < 64 * g + n = below-high n g mask y (ap (has y) k.0 ∙ ap (λ (b : Bool). b || false) (eq-eqb y y refl)) in
    omega (arith, low, k.1))
    (λ (clear : bit_at mask n ≢ 1). mask-rises n g mask y z (sym (below-clear n g mask clear) ∙ here))
    (cases_eq (bit_at mask n) 1)
