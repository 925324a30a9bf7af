-- The frames of a bundle whose bits are set: the list of them has just these, each once. What stands in a list that
-- others were taken from, and
-- what is known of frames whose words became known. Bits that are set are those of free frames, which no pass has.
use Rattle.vm_rule.proofs.{Entries.append-none, Facts.has-both}
use Rattle.vm_rule.proofs.Prelude.{[], and_from, ap, apart-end, AreApart, arith, at_actor, at_free, bit_and, bit_at}
use Rattle.vm_rule.proofs.Prelude.{bit_at-lt, bit_at-zero, bit_at_above, bit_at_and, Bool, cases_Bool, cases_eq}
use Rattle.vm_rule.proofs.Prelude.{cases_lt, eq-eqb, eqb, false, frames_below, frames_in, Free, free-place, has}
use Rattle.vm_rule.proofs.Prelude.{has-without_other, has-without_same, has_free_bit, held-place, if◌then◌else◌}
use Rattle.vm_rule.proofs.Prelude.{in_mask, Inv, List, lt-ltb, ltb, min, nat_tests, ne_eqb, Put, put_at, refl}
use Rattle.vm_rule.proofs.Prelude.{same_from_bits, subst, suc, sym, taken-free, true, true≢false, upd-other, upd-same}
use Rattle.vm_rule.proofs.Prelude.{with_contents, without, without_all, World, zero, ℕ, ⊎_elim, ◌%◌, ◌&&◌, ◌*◌, ◌++◌}
use Rattle.vm_rule.proofs.Prelude.{◌+◌, ◌/◌, ◌<◌, ◌^◌, ◌||◌, ◌∙◌, ◌∷◌, ◌≡◌, ◌≢◌, ◌≤◌}

-- ---- the frames of a mask

-- a list of one number, where the bit says so
abbrev one-if : Bool → ℕ → List ℕ
one-if b x = if b then x ∷ [] else []

has-one : (f x : ℕ) (b : Bool) → has f (one-if b x) ≡ (eqb f x && b)
has-one f x true = ⊎_elim (λ t. rw t refl) (λ n. rw n refl) (cases_Bool (eqb f x))
has-one f x false = ⊎_elim (λ t. rw t refl) (λ n. rw n refl) (cases_Bool (eqb f x))

-- among the first frames stands one more
one-more : (g f n : ℕ) (b c : Bool) → suc n ≤ 64 → (f ≡ 64 * g + n → c ≡ b)
    → ((eqb (f / 64) g && (ltb (f % 64) n && c)) || (eqb f (64 * g + n) && b))
    ≡ (eqb (f / 64) g && (ltb (f % 64) (suc n) && c))
one-more g f n b c le same = ⊎_elim (λ e. let q : f / 64 ≡ g = omega arith in let m : f % 64 ≡ n = omega arith in
    let s : c ≡ b = same e in grind (arith, nat_tests, e, q, m, s)) (λ ne. grind (arith, nat_tests, ne))
    (cases_eq f (64 * g + n))

has-below : (n g mask f : ℕ) → n ≤ 64 → has f (frames_below n g mask) ≡ (eqb (f / 64) g && (ltb (f % 64) n && eqb (bit_at mask (f % 64)) 1))
has-below zero g mask f le = grind (arith, nat_tests)
has-below (suc n) g mask f le =
    has-both f (frames_below n g mask) (one-if (eqb (bit_at mask n) 1) (64 * g + n))
    ∙ (λ i. has-below n g mask f (omega arith) i || has-one f (64 * g + n) (eqb (bit_at mask n) 1) i)
    ∙ one-more g f n (eqb (bit_at mask n) 1) (eqb (bit_at mask (f % 64)) 1) le
    (λ e. let m : f % 64 ≡ n = omega arith in ap (λ k. eqb (bit_at mask k) 1) m)

-- the list has just the frames of the mask
pub has-frames_in : (g mask f : ℕ) → has f (frames_in g mask) ≡ in_mask g mask f
unfolding frames_in in_mask
has-frames_in g mask f = has-below 64 g mask f (omega arith)
    ∙ ap (λ b. eqb (f / 64) g && (b && eqb (bit_at mask (f % 64)) 1)) (lt-ltb (f % 64) 64 (omega arith))

-- a list of different numbers, and another one behind it
apart-snoc : (l : List ℕ) (x : ℕ) (b : Bool) → AreApart l → has x l ≡ false → AreApart (l ++ one-if b x)
apart-snoc l x true a none = apart-end l x a none
apart-snoc l x false a none = subst AreApart (sym (append-none l)) a

below-apart : (n g mask : ℕ) → n ≤ 64 → AreApart (frames_below n g mask)
below-apart zero g mask le = tt
below-apart (suc n) g mask le =
    apart-snoc (frames_below n g mask) (64 * g + n) (eqb (bit_at mask n) 1) (below-apart n g mask (omega arith))
    (has-below n g mask (64 * g + n) (omega arith) ∙ (let m : (64 * g + n) % 64 ≡ n = omega arith in grind (arith, nat_tests, m)))

-- each frame of the mask stands once
pub frames_in-apart : (g mask : ℕ) → AreApart (frames_in g mask)
unfolding frames_in
frames_in-apart g mask = below-apart 64 g mask (omega arith)

-- ---- a list that others were taken from

pub has-without_all : (f : ℕ) (l m : List ℕ) → has f (without_all l m) ≡ (if has f l then false else has f m)
has-without_all f [] m = refl
has-without_all f (q ∷ qs) m =
    has-without_all f qs (without q m)
    ∙ ⊎_elim
    (λ e. rw (eq-eqb f q e, ap (λ n. has n (without q m)) e ∙ has-without_same q m) (none (has f qs)))
    (λ ne. rw (ne_eqb f q ne, has-without_other q f m ne) refl)
    (cases_eq f q)
  where
    none : (b : Bool) → (if b then false else false) ≡ false
    none true = refl
    none false = refl

-- ---- words that became known

pub with_contents-at : (words : ℕ → List ℕ) (l : List ℕ) (contents : List (Put (List ℕ))) (f : ℕ)
    → put_at [] (with_contents words l contents) f ≡ (if has f l then words f else put_at [] contents f)
with_contents-at words [] contents f = refl
with_contents-at words (q ∷ qs) contents f =
    ⊎_elim
    (λ e. rw (eq-eqb f q e)
    (ap (put_at [] (with_contents words (q ∷ qs) contents)) e
    ∙ upd-same (put_at [] (with_contents words qs contents)) q (words q) ∙ ap words (sym e)))
    (λ ne. rw (ne_eqb f q ne) (upd-other (put_at [] (with_contents words qs contents)) q (words q) f ne
    ∙ with_contents-at words qs contents f))
    (cases_eq f q)

-- ---- where the frames of a bundle stand

module _ (w : World) (g mask : ℕ) (inv : Inv w) where
  -- the frames that are taken from a bundle were free: a free frame is one of the core's, and no actor has it
  pub taken-frames : bit_and mask (w.core.bundles g) ≡ mask → (f : ℕ) → in_mask g mask f ≡ true
      → (f < w.core.shape.frames) × ((a : ℕ) → w.core.held a f ≡ false)
  taken-frames among f e =
      ⊎_elim
      (λ t.
      let is : inv.place f ≡ Free = free-place (inv.place f) (sym (inv.frames f).free ∙ t.1) in (
        ⊎_elim (λ l. l) (λ past. absurd (true≢false (ap at_free (sym is ∙ (inv.frames f).outside past)))) (cases_lt f w.core.shape.frames),
        λ a. (inv.frames f).holds a ∙ ap (λ x. at_actor x a) is,
      ))
      (λ t. absurd (true≢false (sym e ∙ t.0)))
      (taken-free w.core.bundles g (w.core.bundles g) mask f refl among)

  -- the bits of frames that an actor has are not set: these are not free
  pub given-bits : (a : ℕ) → mask < 2 ^ 64 → ((f : ℕ) → in_mask g mask f ≡ true → w.core.held a f ≡ true)
      → bit_and (w.core.bundles g) mask ≡ 0
  unfolding in_mask has_free_bit
  given-bits a small holds =
      same_from_bits (bit_and (w.core.bundles g) mask) 0
      (λ i. bit_at_and (w.core.bundles g) mask i ∙ ⊎_elim (λ low. inside i low) (λ high. past i high) (cases_lt i 64) ∙ sym (bit_at-zero i))
    where
      past : (i : ℕ) → 64 ≤ i → min (bit_at (w.core.bundles g) i) (bit_at mask i) ≡ 0
      past i high = let none : bit_at mask i ≡ 0 = bit_at_above mask 64 i small high in omega (arith, none)

      inside : (i : ℕ) → i < 64 → min (bit_at (w.core.bundles g) i) (bit_at mask i) ≡ 0
      inside i low =
          let bit : bit_at mask i < 2 = bit_at-lt mask i in
          let word : bit_at (w.core.bundles g) i < 2 = bit_at-lt (w.core.bundles g) i in
          ⊎_elim
          (λ (one : bit_at mask i ≡ 1).
          let q : (64 * g + i) / 64 ≡ g = omega (arith, low) in
          let m : (64 * g + i) % 64 ≡ i = omega (arith, low) in
          let in-it : in_mask g mask (64 * g + i) ≡ true = and_from _ _ (eq-eqb _ _ q) (eq-eqb _ _ (ap (bit_at mask) m ∙ one)) in
          let f : ℕ = 64 * g + i in
          let off : eqb (bit_at (w.core.bundles (f / 64)) (f % 64)) 1 ≡ false = (inv.frames f).free
          ∙ ap at_free (held-place (inv.place f) a (sym ((inv.frames f).holds a) ∙ holds f in-it)) in
          let here : eqb (bit_at (w.core.bundles g) i) 1 ≡ false = sym (λ j. eqb (bit_at (w.core.bundles (q j)) (m j)) 1) ∙ off in
          let ne : bit_at (w.core.bundles g) i ≢ 1 = λ set. true≢false (sym (eq-eqb _ _ set) ∙ here) in
          omega (arith, word, ne))
          (λ (ne : bit_at mask i ≢ 1). omega (arith, bit, ne))
          (cases_eq (bit_at mask i) 1)
