-- What a swap does, by the value that the key has.
use Rattle.std.proofs.Common.{◌≡◌, ◌≢◌, ◌<◌, ◌≤◌, ℕ, ◌∙◌, ap, cond, eqb, false, None, Option, refl, Some, true}
use Rattle.std.proofs.lemmas.Bool.{cond-false, cond-true, eq-eqb, ne_eqb}
use Rattle.vm_map.specs.Map.{Pairs, is_value, lookup_at, put_pair, Rises, swap_pair}
use Rattle.vm_map.proofs.MapLemmas.{Rises-put}
use Rattle.vm_map.specs.History.{outcome_of}
use Rattle.vm_map.specs.declared.call.Swap.TheVariants as swaps

pub outcome-done : (o : Option ℕ) (want : ℕ) → o ≡ Some want → outcome_of o want ≡ swaps.Done
outcome-done o want e = ap (λ x. outcome_of x want) e ∙ cond-true (eqb want want) swaps.Done (swaps.Kept want) (eq-eqb want want refl)

pub outcome-kept : (o : Option ℕ) (v want : ℕ) → o ≡ Some v → v ≢ want → outcome_of o want ≡ swaps.Kept v
outcome-kept o v want e ne = ap (λ x. outcome_of x want) e ∙ cond-false (eqb v want) swaps.Done (swaps.Kept v) (ne_eqb v want ne)

pub outcome-missing : (o : Option ℕ) (want : ℕ) → o ≡ None → outcome_of o want ≡ swaps.Missing
outcome-missing o want e = ap (λ x. outcome_of x want) e

module _ (m : Pairs) (k want v : ℕ) where
  pub swap-done : lookup_at m k ≡ Some want → swap_pair m k want v ≡ put_pair m k v
  swap-done e = cond-true (is_value (lookup_at m k) want) (put_pair m k v) m (ap (λ o. is_value o want) e ∙ eq-eqb want want refl)

  pub swap-kept : (w : ℕ) → lookup_at m k ≡ Some w → w ≢ want → swap_pair m k want v ≡ m
  swap-kept w e ne = cond-false (is_value (lookup_at m k) want) (put_pair m k v) m (ap (λ o. is_value o want) e ∙ ne_eqb w want ne)

  pub swap-missing : lookup_at m k ≡ None → swap_pair m k want v ≡ m
  swap-missing e = cond-false (is_value (lookup_at m k) want) (put_pair m k v) m (ap (λ o. is_value o want) e)

pub Rises-swap : (m : Pairs) (low high k want v : ℕ) → Rises low high m → low ≤ k → k < high → Rises low high (swap_pair m k want v)
Rises-swap m low high k want v rises from below =
    elim (is_value (lookup_at m k) want) as (λ b. Rises low high (cond b (put_pair m k v) m)) [
      | true ↦
          Rises-put m low high k v rises from below
      | false ↦ rises
    ]
