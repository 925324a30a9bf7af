-- The bits of a mask over a free-number word, and the pages whose numbers they are.
use Rattle.std.specs.Int.{bit_at}
use Rattle.std.proofs.Common.{[], ⊎_elim, ◌%◌, ◌*◌, ◌+◌, ◌/◌, ◌<◌, ◌||◌, ◌∙◌, ◌∷◌, ◌≡◌, ◌≢◌, ◌≤◌, ◌⊎◌, ap, arith}
use Rattle.std.proofs.Common.{bit_xor, Bool, eq-eqb, false, inl, inr, length, List, min, refl, sym, true, true≢false}
use Rattle.std.proofs.Common.{ℕ}
use Rattle.std.proofs.lemmas.Bool.{and_from, cases_Bool, cases_eq, false≢true, ne_eqb}
use Rattle.std.proofs.lemmas.Bool.Decides.{nat_tests}
use Rattle.std.proofs.lemmas.Nat.Bits.{bit_at-lt, bit_at-zero, bit_at_and, bit_at_xor, same_from_bits}
use Rattle.vm_event.specs.Prelude.{AreLowest, in_mask}
use Rattle.vm_event.specs.Words.{bit_count}
use Rattle.vm_owner.specs.Numbers.{has}
use Rattle.vm_rule.specs.Bundles.{frames_in}
use Rattle.vm_rule.proofs.Bundled.{has-frames_in}
use Rattle.vm_step.proofs.Masks.{all-below, mask-count, mask-rises, no-bit}

-- a bit that is set is a page's, and a page's bit is set
pub mask-here : (g mask i : ℕ) → i < 64 → bit_at mask i ≡ 1 → in_mask g mask (64 * g + i) ≡ true
unfolding in_mask
mask-here g mask i low one =
    let q : (64 * g + i) / 64 ≡ g = omega (arith, low) in
    let m : (64 * g + i) % 64 ≡ i = omega (arith, low) in
    and_from _ _ (eq-eqb _ _ q) (eq-eqb _ _ (ap (bit_at mask) m ∙ one))

pub mask-parts : (g mask p : ℕ) → in_mask g mask p ≡ true → (p / 64 ≡ g) × (bit_at mask (p % 64) ≡ 1)
unfolding in_mask
mask-parts g mask p e = grind (arith, nat_tests)

pub mask-from : (g mask p : ℕ) → p / 64 ≡ g → bit_at mask (p % 64) ≡ 1 → in_mask g mask p ≡ true
unfolding in_mask
mask-from g mask p of one = and_from _ _ (eq-eqb _ _ of) (eq-eqb _ _ one)

-- a mask with a page's bit is not empty, and the empty one has no page
pub mask-some : (g mask p : ℕ) → in_mask g mask p ≡ true → mask ≢ 0
mask-some g mask p e none = let one = (mask-parts g mask p e).1 in let zero' : bit_at mask (p % 64) ≡ 0 =
    ap (λ m. bit_at m (p % 64)) none ∙ bit_at-zero (p % 64) in absurd (omega (arith, one, zero'))

pub mask-not-none : (mask : ℕ) → 1 ≤ bit_count mask → mask ≢ 0
mask-not-none mask one none = let count : bit_count mask ≡ 0 = ap bit_count none ∙ no-bit in absurd (omega (arith, count, one))

pub none-in : (g : ℕ) → frames_in g 0 ≡ []
none-in g = go (frames_in g 0) (mask-count g 0 ∙ no-bit)
  where
    go : (l : List ℕ) → length l ≡ 0 → l ≡ []
    go [] long = refl
    go (x ∷ xs) long = absurd (omega (arith, long))

-- ---- bits without others

pub xor-else : (g mask bit q : ℕ) → in_mask g bit q ≡ false → in_mask g (bit_xor mask bit) q ≡ in_mask g mask q
unfolding in_mask
xor-else g mask bit q none =
    let both : bit_at (bit_xor mask bit) (q % 64) ≡ (bit_at mask (q % 64) + bit_at bit (q % 64)) % 2 = bit_at_xor mask bit (q % 64) in
    let a : bit_at mask (q % 64) < 2 = bit_at-lt mask (q % 64) in
    let b : bit_at bit (q % 64) < 2 = bit_at-lt bit (q % 64) in
    ⊎_elim
    (λ (here : q / 64 ≡ g).
    ⊎_elim
    (λ (one : bit_at bit (q % 64) ≡ 1). absurd (true≢false (sym (mask-from g bit q here one) ∙ none)))
    (λ (clear : bit_at bit (q % 64) ≢ 1). let same : bit_at (bit_xor mask bit) (q % 64) ≡ bit_at mask (q % 64) =
    omega (arith, both, a, b, clear) in grind (arith, nat_tests, here, same))
    (cases_eq (bit_at bit (q % 64)) 1))
    (λ (other : q / 64 ≢ g). grind (arith, nat_tests, other))
    (cases_eq (q / 64) g)

pub xor-here : (g mask bit q : ℕ) → in_mask g bit q ≡ true → in_mask g mask q ≡ true → in_mask g (bit_xor mask bit) q ≡ false
xor-here g mask bit q one set =
    let both : bit_at (bit_xor mask bit) (q % 64) ≡ (bit_at mask (q % 64) + bit_at bit (q % 64)) % 2 = bit_at_xor mask bit (q % 64) in
    let a = mask-parts g bit q one in
    let b = mask-parts g mask q set in
    ⊎_elim (λ t. absurd (let c = mask-parts g (bit_xor mask bit) q t in omega (arith, both, a.1, b.1, c.1))) (λ f. f)
    (cases_Bool (in_mask g (bit_xor mask bit) q))

-- this bit of the mask is page p's alone
pub record IsBitOf (g mask bit p : ℕ) : Type 0 where
  pub here : in_mask g bit p ≡ true
  pub only : (q : ℕ) → in_mask g bit q ≡ true → q ≡ p
  pub among : in_mask g mask p ≡ true

-- ---- one page, and two

in-one : (f x : ℕ) → has f (x ∷ []) ≡ true → f ≡ x
in-one f x e = ⊎_elim (λ (same : f ≡ x). same)
    (λ (ne : f ≢ x). absurd (false≢true (sym (ap (λ (b : Bool). b || false) (ne_eqb f x ne)) ∙ e))) (cases_eq f x)

in-two : (f x y : ℕ) → has f (x ∷ y ∷ []) ≡ true → (f ≡ x) ⊎ (f ≡ y)
in-two f x y e =
    ⊎_elim
    (λ (same : f ≡ x). inl same)
    (λ (ne : f ≢ x). inr (in-one f y (sym (ap (λ (b : Bool). b || has f (y ∷ [])) (ne_eqb f x ne)) ∙ e)))
    (cases_eq f x)

one-of : (l : List ℕ) (x : ℕ) → length l ≡ 1 → has x l ≡ true → l ≡ x ∷ []
one-of [] x long here = absurd (false≢true here)
one-of (y ∷ []) x long here = ap (λ (n : ℕ). n ∷ []) (sym (in-one x y here))
one-of (y ∷ z ∷ l) x long here = absurd (omega (arith, long))

two-of : (l : List ℕ) (a b : ℕ) → length l ≡ 2 → has a l ≡ true → has b l ≡ true → a < b
    → ((y z : ℕ) → l ≡ y ∷ z ∷ [] → y < z) → l ≡ a ∷ b ∷ []
two-of [] a b long first second less rises = absurd (false≢true first)
two-of (y ∷ []) a b long first second less rises = absurd (omega (arith, long))
two-of (y ∷ z ∷ w ∷ l) a b long first second less rises = absurd (omega (arith, long))
two-of (y ∷ z ∷ []) a b long first second less rises =
    let up : y < z = rises y z refl in
    ⊎_elim
    (λ (fy : a ≡ y).
    ⊎_elim
    (λ (sy : b ≡ y). absurd (omega (arith, less, fy, sy)))
    (λ (sz : b ≡ z). λ i. sym fy i ∷ sym sz i ∷ [])
    (in-two b y z second))
    (λ (fz : a ≡ z). absurd
    (⊎_elim (λ (sy : b ≡ y). omega (arith, less, fz, sy, up)) (λ (sz : b ≡ z). omega (arith, less, fz, sz))
    (in-two b y z second)))
    (in-two a y z first)

-- the page of a mask with one bit
pub only-page : (g mask x : ℕ) → bit_count mask ≡ 1 → in_mask g mask x ≡ true → frames_in g mask ≡ x ∷ []
only-page g mask x one here = one-of (frames_in g mask) x (mask-count g mask ∙ one) (has-frames_in g mask x ∙ here)

pub only-bit : (g mask x : ℕ) → bit_count mask ≡ 1 → in_mask g mask x ≡ true → IsBitOf g mask mask x
only-bit g mask x one here = record {
  here = here;
  only = λ q e. in-one q x (ap (has q) (sym (only-page g mask x one here)) ∙ has-frames_in g mask q ∙ e);
  among = here;
}

pub count-one : (word mask : ℕ) → AreLowest word 1 mask → 1 ≤ bit_count word → bit_count mask ≡ 1
count-one word mask low some = omega (arith, low.count, some)

pub count-two : (word mask : ℕ) → AreLowest word 2 mask → 2 ≤ bit_count word → bit_count mask ≡ 2
count-two word mask low some = omega (arith, low.count, some)

-- of a mask with two bits: the lower one, and the other
module _ (g mask lower : ℕ) (two : bit_count mask ≡ 2) (low : AreLowest mask 1 lower) where
  lower-one : bit_count lower ≡ 1
  lower-one = omega (arith, low.count, two)

  pub lower-some : lower ≢ 0
  lower-some none = let count : bit_count lower ≡ 0 = ap bit_count none ∙ no-bit in absurd (omega (arith, count, lower-one))

  pub upper-some : bit_xor mask lower ≢ 0
  upper-some none =
      let same : mask ≡ lower = same_from_bits mask lower (λ i.
      let both : bit_at (bit_xor mask lower) i ≡ (bit_at mask i + bit_at lower i) % 2 = bit_at_xor mask lower i in
      let zero' : bit_at (bit_xor mask lower) i ≡ 0 = ap (λ m. bit_at m i) none ∙ bit_at-zero i in
      omega (arith, both, zero', bit_at-lt mask i, bit_at-lt lower i)) in
      absurd (omega (arith, ap bit_count same, two, lower-one))

  lower-among : (q : ℕ) → in_mask g lower q ≡ true → in_mask g mask q ≡ true
  lower-among q e =
      let k = mask-parts g lower q e in
      let both : min (bit_at lower (q % 64)) (bit_at mask (q % 64)) ≡ bit_at lower (q % 64) =
      sym (bit_at_and lower mask (q % 64)) ∙ ap (λ m. bit_at m (q % 64)) low.among in
      mask-from g mask q k.0 (omega (arith, both, k.1, bit_at-lt mask (q % 64)))

  pub lower-bit : (a : ℕ) → in_mask g lower a ≡ true → IsBitOf g mask lower a
  lower-bit a first = let k = only-bit g lower a lower-one first in record { here = first; only = k.only; among = lower-among a first }

  -- a page of the other bits is one of the mask, and none of the lower bit
  pub upper-parts : (q : ℕ) → in_mask g (bit_xor mask lower) q ≡ true → (in_mask g mask q ≡ true) × (in_mask g lower q ≡ false)
  upper-parts q e =
      ⊎_elim
      (λ (t : in_mask g lower q ≡ true). absurd (true≢false (sym e ∙ xor-here g mask lower q t (lower-among q t))))
      (λ (f : in_mask g lower q ≡ false). (sym (xor-else g mask lower q f) ∙ e, f))
      (cases_Bool (in_mask g lower q))

  module _ (a b : ℕ) (first : in_mask g lower a ≡ true) (second : in_mask g (bit_xor mask lower) b ≡ true) where
    lower-less : a < b
    lower-less =
        let k = mask-parts g lower a first in
        let u = upper-parts b second in
        let m = mask-parts g mask b u.0 in
        let clear : bit_at lower (b % 64) ≡ 0 =
        ⊎_elim
        (λ (one : bit_at lower (b % 64) ≡ 1). absurd (true≢false (sym (mask-from g lower b m.0 one) ∙ u.1)))
        (λ (ne : bit_at lower (b % 64) ≢ 1). omega (arith, ne, bit_at-lt lower (b % 64)))
        (cases_eq (bit_at lower (b % 64)) 1) in
        let less = low.lowest (a % 64) (b % 64) k.1 m.1 clear in
        omega (arith, less, k.0, m.0)

    pub lower-apart : a ≢ b
    lower-apart e = absurd (let less = lower-less in omega (arith, less, e))

    pub both-pages : frames_in g mask ≡ a ∷ b ∷ []
    both-pages =
        two-of (frames_in g mask) a b (mask-count g mask ∙ two) (has-frames_in g mask a ∙ lower-among a first)
        (has-frames_in g mask b ∙ (upper-parts b second).0) lower-less
        (λ y z e. mask-rises 64 g mask y z (all-below g mask ∙ e))

    pub upper-bit : IsBitOf g mask (bit_xor mask lower) b
    upper-bit = record {
      here = second;
      only = λ q e.
          let u = upper-parts q e in
          ⊎_elim
          (λ (same : q ≡ a). absurd (true≢false (sym first ∙ ap (in_mask g lower) (sym same) ∙ u.1)))
          (λ (same : q ≡ b). same)
          (in-two q a b (ap (has q) (sym both-pages) ∙ has-frames_in g mask q ∙ u.0));
      among = (upper-parts b second).0;
    }

-- a mask with two bits: the lower one is page a's, the other one page b's
pub record AreTwoBits (g mask lower a b : ℕ) : Type 0 where
  pub first : IsBitOf g mask lower a
  pub second : IsBitOf g mask (bit_xor mask lower) b
  pub pages : frames_in g mask ≡ a ∷ b ∷ []
  pub apart : a ≢ b

pub first-bit : (g word mask lower a : ℕ) → AreLowest word 2 mask × (2 ≤ bit_count word) → AreLowest mask 1 lower
    → in_mask g lower a ≡ true → IsBitOf g mask lower a
first-bit g word mask lower a two low first = lower-bit g mask lower (count-two word mask two.0 two.1) low a first

pub two-bits : (g word mask lower a b : ℕ) → AreLowest word 2 mask × (2 ≤ bit_count word) → AreLowest mask 1 lower
    → in_mask g lower a ≡ true → in_mask g (bit_xor mask lower) b ≡ true → AreTwoBits g mask lower a b
two-bits g word mask lower a b two low first second =
    let count : bit_count mask ≡ 2 = count-two word mask two.0 two.1 in record {
      first = lower-bit g mask lower count low a first;
      second = upper-bit g mask lower count low a b first second;
      pages = both-pages g mask lower count low a b first second;
      apart = lower-apart g mask lower count low a b first second;
    }
