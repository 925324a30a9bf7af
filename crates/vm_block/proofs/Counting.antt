-- How many different numbers of a plan are at most the number of calls made: one more after a call whose number stands in it.
use Rattle.std.proofs.Common.{◌≡◌, ℕ, ◌+◌, ◌-◌, ◌^◌, ◌≤◌, List, [], ◌∷◌, Bool, true, refl, ap, min, ◌∙◌, nat_eq, nat_lt, arith}
use Rattle.std.proofs.lemmas.Grind.{common_steps}
use Rattle.std.specs.List.{count_by}
use Rattle.std.specs.Set.{unique_keys, is_member}
use Rattle.std.proofs.lemmas.List.Sums.{count_by-le-length}
use Rattle.vm_block.specs.Plans.{up_to, most_faults, most_counted}

abbrev below : ℕ → ℕ → Bool
below n number = nat_lt number (n + 1)

grows : (ks : List ℕ) (n : ℕ) → count_by (below n) ks ≤ count_by (below (n + 1)) ks
grows [] n = omega arith
grows (k ∷ ks) n = grind (arith, common_steps, grows ks n)

gains : (ks : List ℕ) (n : ℕ) → is_member nat_eq ks (n + 1) ≡ true → count_by (below n) ks + 1 ≤ count_by (below (n + 1)) ks
gains [] n is = grind (arith, common_steps, is)
gains (k ∷ ks) n is = grind (arith, common_steps, is, grows ks n, gains ks n)

-- a list and its different numbers have the same members
same_members : (ks : List ℕ) (q : ℕ) → is_member nat_eq (unique_keys nat_eq ks) q ≡ is_member nat_eq ks q
same_members [] q = refl
same_members (k ∷ ks) q = grind (arith, common_steps, same_members ks q, same_members ks k)

pub up_to_grows : (numbers : List ℕ) (n : ℕ) → up_to numbers n ≤ up_to numbers (n + 1)
up_to_grows numbers n = grows (unique_keys nat_eq numbers) n

pub up_to_gains : (numbers : List ℕ) (n : ℕ) → is_member nat_eq numbers (n + 1) ≡ true → up_to numbers n + 1 ≤ up_to numbers (n + 1)
up_to_gains numbers n is = gains (unique_keys nat_eq numbers) n (same_members numbers (n + 1) ∙ is)

-- so no more calls fail than the plan has different numbers
pub within_most : (numbers : List ℕ) (calls first faults : ℕ) → faults ≤ first + up_to numbers calls
    → faults ≤ 2 ^ 64 - 1 → faults ≤ most_counted first numbers
within_most numbers calls first faults once most =
    let few = count_by-le-length (below calls) (unique_keys nat_eq numbers) in omega (arith, once, most, few)

-- a count that starts at none
pub counted_from_none : (numbers : List ℕ) → most_counted 0 numbers ≡ most_faults numbers
counted_from_none numbers = ap (λ n. min n (2 ^ 64 - 1)) (omega arith)
