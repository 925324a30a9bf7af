-- What the single tests of words and pairs say, each both ways.
use Rattle.std.proofs.Common.{◌≡◌, ℕ, zero, suc, ◌+◌, ◌<◌, ◌≤◌, inl, inr, List, [], ◌∷◌, length, get_or, drop}
use Rattle.std.proofs.Common.{replicate, Some, true, ◌&&◌, eqb, ltb, leb, ◌-◌, refl, arith, sym, ◌∙◌}
use Rattle.std.proofs.lemmas.Bool.{cases_eq, and_parts, and_from, eqb-true, eq-eqb, leb-true, ltb-true, lt-ltb, le-leb}
use Rattle.std.proofs.lemmas.Bool.Decides.{nat_tests}
use Rattle.std.proofs.lemmas.List.{get_or-drop, length-replicate}
use Rattle.vm_tree_model.specs.Layout.{Layout}
use Rattle.vm_map.specs.Map.{Pairs, lookup_at, Rises, StartsAt}
use Rattle.vm_tree_model.specs.Page.{IsFree}
use Rattle.vm_map.proofs.MapLemmas.{found_low}
use Rattle.vm_tree_model.specs.Walk.{starts_at, all_zero, is_free, rises, names_pages}

pub all_zero-tells : (ws : List ℕ) → all_zero ws ≡ true → (i : ℕ) → get_or ws i 0 ≡ 0
all_zero-tells [] is i = refl
all_zero-tells (w ∷ ws) is zero = eqb-true w 0 (and_parts (eqb w 0) (all_zero ws) is).0
all_zero-tells (w ∷ ws) is (suc i) = all_zero-tells ws (and_parts (eqb w 0) (all_zero ws) is).1 i

pub all_zero-from : (ws : List ℕ) → ((i : ℕ) → get_or ws i 0 ≡ 0) → all_zero ws ≡ true
all_zero-from [] each = refl
all_zero-from (w ∷ ws) each = and_from (eqb w 0) (all_zero ws) (eq-eqb w 0 (each 0)) (all_zero-from ws (λ i. each (suc i)))

pub zeros_past : (words : List ℕ) (n : ℕ) → all_zero (drop n words) ≡ true → (i : ℕ) → n ≤ i → get_or words i 0 ≡ 0
zeros_past words n is i le = let at : n + (i - n) ≡ i = omega arith in
    rw (← at) (sym (get_or-drop n words (i - n) 0) ∙ all_zero-tells (drop n words) is (i - n))

pub zeros_past-from : (words : List ℕ) (n : ℕ) → ((i : ℕ) → n ≤ i → get_or words i 0 ≡ 0) → all_zero (drop n words) ≡ true
zeros_past-from words n each = all_zero-from (drop n words) (λ i. get_or-drop n words i 0 ∙ each (n + i) (omega arith))

-- a page that passes the test is free
pub is_free-tells : (L : Layout) (ws : List ℕ) → is_free L ws ≡ true → IsFree L ws
is_free-tells L ws is = let (long, zeros) = and_parts (eqb (length ws) L.words) (all_zero ws) is in record {
  length = eqb-true (length ws) L.words long;
  zero = all_zero-tells ws zeros;
}

pub is_free-from : (L : Layout) (ws : List ℕ) → IsFree L ws → is_free L ws ≡ true
is_free-from L ws free = and_from (eqb (length ws) L.words) (all_zero ws) (eq-eqb (length ws) L.words free.length)
    (all_zero-from ws free.zero)

-- a page of zeros is free
pub free_zeros : (L : Layout) → IsFree L (replicate L.words 0)
free_zeros L = record { length = length-replicate L.words 0; zero = zeros L.words }
  where
    zeros : (n i : ℕ) → get_or {A = ℕ} (replicate n 0) i 0 ≡ 0
    zeros zero i = refl
    zeros (suc n) zero = refl
    zeros (suc n) (suc i) = zeros n i

pub rises-tells : (m : Pairs) (low high : ℕ) → rises low high m ≡ true → Rises low high m
rises-tells [] low high is = tt
rises-tells (e ∷ es) low high is =
    let (below, rest) = and_parts (leb low e.0 && ltb e.0 high) (rises (e.0 + 1) high es) is in
    let (from, upto) = and_parts (leb low e.0) (ltb e.0 high) below in
    (leb-true low e.0 from, ltb-true e.0 high upto, rises-tells es (e.0 + 1) high rest)

pub rises-from : (m : Pairs) (low high : ℕ) → Rises low high m → rises low high m ≡ true
rises-from [] low high r = refl
rises-from (e ∷ es) low high r = and_from _ _ (and_from _ _ (le-leb low e.0 r.0) (lt-ltb e.0 high r.1)) (rises-from es (e.0 + 1) high r.2)

pub names_pages-tells : (m : Pairs) (pages : ℕ) → names_pages pages m ≡ true → (k c : ℕ) → lookup_at m k ≡ Some c → (1 ≤ c) × (c < pages)
names_pages-tells [] pages is k c found = absurd (cc)
names_pages-tells (e ∷ es) pages is k c found =
    let (here, rest) = and_parts (leb 1 e.1 && ltb e.1 pages) (names_pages pages es) is in
    let (some, upto) = and_parts (leb 1 e.1) (ltb e.1 pages) here in
    elim (cases_eq k e.0) [
      | inl same ↦ let at : Some e.1 ≡ Some c = grind (arith, nat_tests, found, same) in let value : e.1 ≡ c = cc in
          (omega (arith, leb-true 1 e.1 some), omega (arith, ltb-true e.1 pages upto))
      | inr other ↦ names_pages-tells es pages rest k c (grind (arith, nat_tests, found, other))
    ]

pub names_pages-from : (m : Pairs) (low high pages : ℕ) → Rises low high m
    → ((k c : ℕ) → lookup_at m k ≡ Some c → (1 ≤ c) × (c < pages)) → names_pages pages m ≡ true
names_pages-from [] low high pages r each = refl
names_pages-from (e ∷ es) low high pages r each =
    let here = each e.0 e.1 (grind (arith, nat_tests)) in
    and_from _ _ (and_from _ _ (le-leb 1 e.1 here.0) (lt-ltb e.1 pages here.1))
    (names_pages-from es (e.0 + 1) high pages r.2
    (λ k c found. each k c (let above = found_low es (e.0 + 1) high k c r.2 found in
    grind (arith, nat_tests, found, above))))

pub starts_tells : (m : Pairs) (low : ℕ) → starts_at low m ≡ true → StartsAt low m
starts_tells [] low is = absurd (cc)
starts_tells (e ∷ es) low is = eqb-true e.0 low is

pub starts_from : (m : Pairs) (low : ℕ) → StartsAt low m → starts_at low m ≡ true
starts_from [] low s = absurd s
starts_from (e ∷ es) low s = eq-eqb e.0 low s

pub starts_some : (m : Pairs) (low : ℕ) → StartsAt low m → 1 ≤ length m
starts_some [] low s = absurd s
starts_some (e ∷ es) low s = omega arith
