-- The pairs from a key on, among keys that rise, are those from the place where the keys stop being lower.
use Rattle.std.proofs.Common.{◌≡◌, ℕ, ◌+◌, ◌<◌, ◌≤◌, true, false, [], ◌∷◌, ◌++◌, length, get_or, take, drop, leb, ltb}
use Rattle.std.proofs.Common.{List, ◌*◌, refl, sym, ap, ◌∙◌, arith, append-nil, append_assoc, inl, inr}
use Rattle.std.proofs.lemmas.Bool.Decides.{nat_tests}
use Rattle.std.proofs.lemmas.Bool.{cases_lt}
use Rattle.std.proofs.lemmas.List.{drop_more, drop_all}
use Rattle.vm_map.specs.Map.{Pairs, Rises}
use Rattle.vm_map.specs.Windows.{from_key, bound_after}
use Rattle.vm_map.proofs.FirstPairs.{first_shown, first_bound, all_shown, all_bound}
use Rattle.vm_tree_model.specs.Fixed.{fixed_pairs, high_of}
use Rattle.vm_page.specs.Sizes.{IsSize}
use Rattle.vm_node.specs.Places.{IsBound, place_of}
use Rattle.vm_node.proofs.Bounds.{bound_place}
use Rattle.vm_node.proofs.ReadPairs.{pair_is, key_is}

-- all keys are at or above the start
from_all : (m : Pairs) (low high start : ℕ) → Rises low high m → start ≤ low → from_key start m ≡ m
from_all [] low high start r le = refl
from_all (e ∷ es) low high start r le =
    let test : leb start e.0 ≡ true = grind (arith, nat_tests, r.0, le) in
    rw test (ap (λ (l : Pairs). e ∷ l) (from_all es (e.0 + 1) high start r.2 (omega (arith, r.0, le))))

from_place : (m : Pairs) (low high start : ℕ) → Rises low high m → drop (place_of m start) m ≡ from_key start m
from_place [] low high start r = refl
from_place (e ∷ es) low high start r = elim (cases_lt e.0 start) [
  | inl below ↦
      let less : ltb e.0 start ≡ true = grind (arith, nat_tests) in
      let test : leb start e.0 ≡ false = grind (arith, nat_tests) in
      rw (less, test) (from_place es (e.0 + 1) high start r.2)
  | inr from ↦
      let not_less : ltb e.0 start ≡ false = grind (arith, nat_tests) in
      let test : leb start e.0 ≡ true = grind (arith, nat_tests) in
      rw (not_less, test) (ap (λ (l : Pairs). e ∷ l) (sym (from_all es (e.0 + 1) high start r.2 (omega (arith, from)))))
]

module _ (pairs : Pairs) (i k v : ℕ) (lt : i < length pairs) (here : get_or pairs i (0, 0) ≡ (k, v)) where
  next : drop i pairs ≡ (k, v) ∷ drop (i + 1) pairs
  next = drop_more pairs i (0, 0) lt ∙ ap (λ (e : ℕ × ℕ). e ∷ drop (i + 1) pairs) here

-- where no pair is left
none_left : (taken all pairs : Pairs) (i : ℕ) → length pairs ≤ i → taken ++ drop i pairs ≡ all → taken ≡ all
none_left taken all pairs i le whole = sym (append-nil taken) ∙ rw (drop_all i pairs le) at whole

-- ---- what is known of a page while its pairs are taken

-- what was taken and the pairs from place i on are those from the bound on
pub record IsTaking (n start count i : ℕ) (taken : Pairs) (words : List ℕ) : Type 0 where
  pub all : count ≡ length (fixed_pairs n words)
  pub first : ℕ
  pub bound : IsBound (fixed_pairs n words) start first
  pub whole : taken ++ drop i (fixed_pairs n words) ≡ drop first (fixed_pairs n words)

pub taking_begins : (n start count first : ℕ) (words : List ℕ) → count ≡ length (fixed_pairs n words)
    → IsBound (fixed_pairs n words) start first → IsTaking n start count first [] words
taking_begins n start count first words all bound = record { all = all; first = first; bound = bound; whole = refl }

module _ (n : ℕ) (size_of : IsSize n) (start count i : ℕ) (taken : Pairs) (words : List ℕ) (is : IsTaking n start count i taken words) where
  -- among keys that rise, those are the pairs from the start on
  from_start : (low high : ℕ) → Rises low high (fixed_pairs n words)
      → taken ++ drop i (fixed_pairs n words) ≡ from_key start (fixed_pairs n words)
  from_start low high rises =
      is.whole ∙ ap (λ (m : ℕ). drop m (fixed_pairs n words))
      (bound_place (fixed_pairs n words) low high start is.first rises is.bound)
      ∙ from_place (fixed_pairs n words) low high start rises

  module _ (size : length words ≡ n) (key : ℕ) (left : i < count) (read_key : get_or words (8 + 2 * i) 0 ≡ key) where
    inside : i < length (fixed_pairs n words)
    inside = omega (arith, left, is.all)

    pub taking_more : (value : ℕ) → get_or words (9 + 2 * i) 0 ≡ value → IsTaking n start count (i + 1) (taken ++ (key, value) ∷ []) words
    taking_more value read_value =
        let here : get_or (fixed_pairs n words) i (0, 0) ≡ (key, value) = pair_is n size_of words size i inside
        ∙ (λ j. (read_key j, read_value j)) in
        record {
          all = is.all;
          first = is.first;
          bound = is.bound;
          whole = append_assoc taken ((key, value) ∷ []) (drop (i + 1) (fixed_pairs n words))
              ∙ ap (λ (l : Pairs). taken ++ l) (sym (next (fixed_pairs n words) i key value inside here)) ∙ is.whole;
        }

    -- for the next pair there is no room
    pub taking_stops : (most low high : ℕ) → length taken ≡ most → Rises low high (fixed_pairs n words)
        → (taken ≡ take most (from_key start (fixed_pairs n words)))
        × (key ≡ bound_after (from_key start (fixed_pairs n words)) most (high_of words))
    taking_stops most low high long rises =
        let value : ℕ = (get_or (fixed_pairs n words) i (0, 0)).1 in
        let here : get_or (fixed_pairs n words) i (0, 0) ≡ (key, value) =
        ap (λ (k : ℕ). (k, value)) (key_is n size_of words size i inside ∙ read_key) in
        let whole : taken ++ (key, value) ∷ drop (i + 1) (fixed_pairs n words) ≡ from_key start (fixed_pairs n words) =
        ap (λ (l : Pairs). taken ++ l) (sym (next (fixed_pairs n words) i key value inside here)) ∙ from_start low high rises in
        (first_shown _ _ _ _ _ whole long, first_bound _ _ _ _ _ (high_of words) whole long)

  -- no pair is left
  pub taking_ends : (bound most low high : ℕ) → count ≤ i → bound ≡ high_of words → length taken ≤ most
      → Rises low high (fixed_pairs n words)
      → (taken ≡ take most (from_key start (fixed_pairs n words)))
      × (bound ≡ bound_after (from_key start (fixed_pairs n words)) most (high_of words))
  taking_ends bound most low high past fence few rises =
      let whole : taken ≡ from_key start (fixed_pairs n words) =
      none_left _ _ (fixed_pairs n words) i (omega (arith, past, is.all)) (from_start low high rises) in
      (all_shown _ _ _ whole few, fence ∙ all_bound _ _ _ (high_of words) whole few)
