-- What edits of a node's pairs do to its size and its weight.
use Rattle.std.proofs.Common.{◌≡◌, ℕ, ◌+◌, ◌-◌, ◌*◌, ◌<◌, ◌≤◌, List, [], ◌∷◌, eqb, ltb, Some, if◌then◌else◌, Bool}
use Rattle.std.proofs.Common.{true, false, arith, inl, inr}
use Rattle.std.proofs.lemmas.Bool.{cases_eq, cases_lt}
use Rattle.std.proofs.lemmas.Bool.Decides.{nat_tests}
use Rattle.std.proofs.Math.Nat.{mul-add, mul-le-mul_left}
use Rattle.vm_map.specs.Map.{Pairs, lookup_at, put_pair, del_pair, Rises}
use Rattle.vm_map.proofs.MapLemmas.{found_low}
use Rattle.vm_tree_model.specs.Layout.{Layout, pairs_size, size, weight}
use Rattle.vm_tree_model.specs.Count.{is_node}
use Rattle.vm_tree_model.proofs.Load.{load_of}

is_less : (a b : ℕ) → a < b → ltb a b ≡ true
is_less a b lt = grind (arith, nat_tests, lt)

is_not_less : (a b : ℕ) → b ≤ a → ltb a b ≡ false
is_not_less a b le = grind (arith, nat_tests, le)

is_same : (a b : ℕ) → a ≡ b → eqb a b ≡ true
is_same a b same = grind (arith, nat_tests, same)

is_other : (a b : ℕ) → (a ≡ b → ⊥) → eqb a b ≡ false
is_other a b other = grind (arith, nat_tests, other)

pub size-put : (each : ℕ → ℕ) (es : Pairs) (k v : ℕ) → pairs_size each (put_pair es k v) ≤ pairs_size each es + each k
size-put each [] k v = omega arith
size-put each (e ∷ es) k v = elim (cases_lt k e.0) [
  | inl below ↦ rw (is_less k e.0 below) (omega arith)
  | inr from ↦ elim (cases_eq k e.0) [
    | inl same ↦ rw (is_not_less k e.0 from, is_same k e.0 same) (omega arith)
    | inr other ↦ rw (is_not_less k e.0 from, is_other k e.0 other) (let rest = size-put each es k v in omega (arith, rest))
  ]
]

-- a put over a pair that is there
pub size-put_found : (each : ℕ → ℕ) (es : Pairs) (low high k v w : ℕ) → Rises low high es → lookup_at es k ≡ Some w
    → pairs_size each (put_pair es k v) ≡ pairs_size each es
size-put_found each [] low high k v w rises found = absurd (cc)
size-put_found each (e ∷ es) low high k v w rises found = elim (cases_eq k e.0) [
  | inl same ↦ rw (is_not_less k e.0 (omega (arith, same)), is_same k e.0 same) (key_size each k e.0 (pairs_size each es) same)
  | inr other ↦
      let rest : lookup_at es k ≡ Some w = rw (is_other k e.0 other) at found in
      let above = found_low es (e.0 + 1) high k w rises.2 rest in
      rw (is_not_less k e.0 (omega (arith, above)), is_other k e.0 other)
      (let more = size-put_found each es (e.0 + 1) high k v w rises.2 rest in omega (arith, more))
]
  where
    key_size : (each : ℕ → ℕ) (a b n : ℕ) → a ≡ b → each a + n ≡ each b + n
    key_size each a b n same = λ i. each (same i) + n

pub size-del : (each : ℕ → ℕ) (es : Pairs) (k : ℕ) → pairs_size each (del_pair es k) ≤ pairs_size each es
size-del each [] k = omega arith
size-del each (e ∷ es) k = elim (cases_eq k e.0) [
  | inl same ↦ rw (is_same k e.0 same) (omega arith)
  | inr other ↦ rw (is_other k e.0 other) (let rest = size-del each es k in omega (arith, rest))
]

-- a weight with products, by its parts
scaled : (a b s t g base : ℕ) → s ≤ t + g → a + b * (s - base) ≤ a + b * (t - base) + b * g
scaled a b s t g base le =
    let more : b * (s - base) ≤ b * ((t - base) + g) = mul-le-mul_left b (omega (arith, le)) in
    let parts : b * (s - base) ≤ b * (t - base) + b * g = rw (← mul-add b (t - base) g) more in
    omega (arith, parts)

picked : (x y : ℕ) (is is' : Bool) (more : ℕ) → is ≡ is' → x ≤ y + more → (if is then x else 0) ≤ (if is' then y else 0) + more
picked x y true is' more same le = rw (← same) le
picked x y false is' more same le = omega arith

module _ (L : Layout) (new old : List ℕ) where
  -- a pair more
  pub weighs_more : is_node L new ≡ is_node L old → size L (L.node_of new) ≤ size L (L.node_of old) + L.growth
      → load_of L new ≤ load_of L old + L.excess_weight * L.growth * 1
  weighs_more both le = let one : L.excess_weight * L.growth * 1 ≡ L.excess_weight * L.growth = omega arith in
      rw one (picked (weight L (L.node_of new)) (weight L (L.node_of old)) (is_node L new) (is_node L old)
      (L.excess_weight * L.growth) both
      (scaled L.node_weight L.excess_weight (size L (L.node_of new)) (size L (L.node_of old)) L.growth L.base le))

  -- no pair more
  pub weighs_less : (more : ℕ) → is_node L new ≡ is_node L old → size L (L.node_of new) ≤ size L (L.node_of old)
      → load_of L new ≤ load_of L old + more
  weighs_less more both le =
      let none : L.excess_weight * 0 ≡ 0 = omega arith in
      let less = scaled L.node_weight L.excess_weight (size L (L.node_of new)) (size L (L.node_of old)) 0 L.base (omega (arith, le)) in
      picked (weight L (L.node_of new)) (weight L (L.node_of old)) (is_node L new) (is_node L old) more both (omega (arith, less, none))

-- the load after one page changed, where a put may be new
pub grown_room : (each new old w o news more next k : ℕ) → new + o ≡ old + w → next ≡ news + more
    → w ≤ o + each * more → old ≤ k + each * news → new ≤ k + each * next
grown_room each new old w o news more next k sums is grows room = rw (is, mul-add each news more) (omega (arith, sums, grows, room))
