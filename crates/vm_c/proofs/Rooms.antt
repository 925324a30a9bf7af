-- There is room for the pairs of a window or a range.
use Rattle.std.proofs.Common.{[], ◌&&◌, ◌*◌, ◌∙◌, ◌∷◌, ◌≡◌, ◌≤◌, ap}
use Rattle.std.proofs.Common.{arith, Err, length, length-append, length-take, List, min, nat_le, nat_lt}
use Rattle.std.proofs.Common.{None, Ok, Option, Result, slice_index, Some, subst, sym, take, true, ℕ}
use Rattle.std.proofs.lemmas.List.Sums.{count_by-le-length, length-filter}
use Rattle.vm_map.specs.{declared.call.Reply.Reply, declared.call.Said.Said, History.between}
use Rattle.vm_map.specs.{History.bound_of, Map.Pairs}
use Rattle.vm_map.specs.declared.call.Call.TheVariants.{Range, Window}
use Rattle.vm_map.specs.declared.call.Reply.TheVariants.{Gone, Got, Many, Swapped, Was, Wide, Win}
use Rattle.vm_map.specs.declared.window.Bound.{Bound}
use Rattle.vm_tree_model.specs.{Fixed.fixed, Fixed.fixed_node, Fixed.fixed_pairs, Fixed.places}
use Rattle.vm_step.specs.Prelude.{Origin, View}
use Rattle.vm_face.specs.from_vm_tree_rule.declared_fault_TreeFault.{TreeFault}
use Rattle.vm_tree_laws.specs.May.{IsProvedByAll, pairs_held}
use Rattle.vm_face.specs.Calls.{IsHandCall}
use Rattle.vm_c.specs.Shows.{FitsIn}

take-few : (n : ℕ) (l : Pairs) → length (take n l) ≤ n
take-few n l = omega (arith, length-take n l)

-- a leaf has at most 28 pairs
leaf-few : (words : List ℕ) → length (fixed_pairs 64 words) ≤ 28
leaf-few words = omega (arith, length-take (min (slice_index words 1) 28) (places words))

between-few : (m : Pairs) (low high : ℕ) → length (between m low high) ≤ length m
between-few m low high =
    let p = λ (e : ℕ × ℕ). nat_le low e.0 && nat_lt e.0 high in omega (arith, length-filter p m, count_by-le-length p m)

held-few : (leaves : List (ℕ × List ℕ)) (from upto : ℕ) → length (pairs_held (fixed 64) leaves from upto) ≤ 28 * length leaves
held-few [] from upto = omega arith
held-few (q ∷ qs) from upto =
    let node = fixed_node 64 q.1 in
    let here = between (fixed_pairs 64 q.1) from (min node.high upto) in
    let rest = pairs_held (fixed 64) qs node.high upto in
    omega (arith, length-append here rest, between-few (fixed_pairs 64 q.1) from (min node.high upto), leaf-few q.1, held-few qs node.high upto)

module _ (v w : View Said) (tells : v.start.tells ≡ true) where
  pub window-fits : (start most room : ℕ) → min most 28 ≤ room → (answer : Result (Option Reply) TreeFault)
      → IsHandCall 64 (Window start most) answer v w → FitsIn room answer
  window-fits start most room le (Ok (Some (Win window))) call =
      let told = call.0.answered.told (ap (λ (o : Origin). o.tells) call.0.waits.start ∙ tells) in
      let few : length window.pairs ≤ min most 28 =
      subst (λ (l : Pairs). length l ≤ min most 28) (sym told.proved.2.shows) (take-few (min most 28) _) in
      (omega (arith, few, le), omega (arith, few))
  window-fits start most room le (Ok (Some (Got value))) call = tt
  window-fits start most room le (Ok (Some (Was value))) call = tt
  window-fits start most room le (Ok (Some (Gone value))) call = tt
  window-fits start most room le (Ok (Some (Swapped outcome))) call = tt
  window-fits start most room le (Ok (Some (Many span))) call = absurd call.1
  window-fits start most room le (Ok (Some (Wide reach))) call = tt
  window-fits start most room le (Ok None) call = tt
  window-fits start most room le (Err fault) call = tt

  pub range-fits : (low : ℕ) (bound : Bound) (room : ℕ) → 448 ≤ room → (answer : Result (Option Reply) TreeFault)
      → IsHandCall 64 (Range low bound) answer v w → FitsIn room answer
  range-fits low bound room le (Ok (Some (Many span))) call =
      let done = call.0.answered in
      let told = done.told (ap (λ (o : Origin). o.tells) call.0.waits.start ∙ tells) in
      let proved : IsProvedByAll (fixed 64) told.leaves (Range low bound) (Many span) =
      subst (λ (s : Said). IsProvedByAll (fixed 64) told.leaves s.call s.reply) done.says_is told.proved in
      let few : length span.0 ≤ 28 * length told.leaves = subst (λ (l : Pairs). length l ≤ 28 * length told.leaves) (sym proved.3)
      (held-few told.leaves low (bound_of bound)) in
      (omega (arith, few, told.few, le), omega (arith, few, told.few))
  range-fits low bound room le (Ok (Some (Got value))) call = tt
  range-fits low bound room le (Ok (Some (Was value))) call = tt
  range-fits low bound room le (Ok (Some (Gone value))) call = tt
  range-fits low bound room le (Ok (Some (Swapped outcome))) call = tt
  range-fits low bound room le (Ok (Some (Win window))) call = absurd call.1
  range-fits low bound room le (Ok (Some (Wide reach))) call = tt
  range-fits low bound room le (Ok None) call = tt
  range-fits low bound room le (Err fault) call = tt
