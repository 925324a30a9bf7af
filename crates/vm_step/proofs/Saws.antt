-- The evidence of a call that looks at a page's word, and then loses an exchange on it.
use Rattle.vm_rule.specs.declared.view.WordPlace.TheVariants as places
use Rattle.vm_step.specs.Evidence.{read}
use Rattle.vm_step.specs.declared.saw.At.TheVariants as ats
use Rattle.vm_step.proofs.Prelude.{[], ap, cond-false, did_exchange, did_load, eqb, expected}
use Rattle.vm_step.proofs.Prelude.{HasGiven, inr, IsSaw, ne_eqb, none-some, refl}
use Rattle.vm_step.proofs.Prelude.{Some, ℕ, ⊎_elim, ◌∷◌, ◌≡◌, ◌≢◌, ◌⊎◌}

-- the one step gave the word
abbrev pub one-given : (p word : ℕ) → HasGiven (did_load (places.State p) word ∷ []) (places.State p) word
one-given p word = record { earlier = []; step = did_load (places.State p) word; later = []; cut = refl; gives = (refl, refl) }

-- the word expected stands in the place of the word seen, and another word was found
pub lost-saw : {kept : ℕ → Type 0} → (instead : ℕ → ℕ → Type 0) (p word expects found new : ℕ)
    → (word ≡ expects) ⊎ instead word expects → found ≢ expects
    → IsSaw kept instead (did_load (places.State p) word ∷ did_exchange (places.State p) expects found new ∷ [])
    (record { at = ats.Page p; first = expects; seen = found })
lost-saw {kept = kept} instead p word expects found new from ne = record {
  earlier = did_load (places.State p) word ∷ [];
  last = did_exchange (places.State p) expects found new;
  later = [];
  cut = refl;
  gives = (refl, refl);
  since = [];
  begins =
      ⊎_elim (λ (same : word ≡ expects). read [] (did_load (places.State p) word) refl
      (refl, ap (λ (n : ℕ). Some n) same) refl)
      (λ other. expected [] (did_load (places.State p) word) word refl (refl, refl) refl other refl) from;
  quiet = tt;
  foreign = ((λ at e. none-some found e), tt);
  why = inr (inr record {
    gives = (refl, refl);
    expected = refl;
    other = ne;
    left = cond-false (eqb found expects) _ _ (ne_eqb found expects ne);
  });
}
