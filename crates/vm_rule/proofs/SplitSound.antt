-- What the rule keeps of a pass's own view, where the pass is split: of its view then, and of the new pass's.
use Rattle.vm_rule.proofs.{Joining.has-either, Joining.has-left, Joining.has-right, Splitting.cut-has}
use Rattle.vm_rule.proofs.{Splitting.fresh-cut, Splitting.none-given}
use Rattle.vm_rule.proofs.Prelude.{[], AreApart, Bool, cases_Bool, false, first_part, given_part, giver, has, List}
use Rattle.vm_rule.proofs.Prelude.{newcomer, other_parts, refl, Sound, sym, true, true≢false, View, ℕ, ⊎_elim, ◌++◌}
use Rattle.vm_rule.proofs.Prelude.{◌∙◌, ◌∷◌}

-- ---- parts without the first of them

fewer-apart : (l m : List ℕ) → AreApart (l ++ m) → AreApart (l ++ other_parts m)
fewer-apart [] [] apart = tt
fewer-apart [] (n ∷ m) apart = apart.1
fewer-apart (n ∷ l) m apart = (
  ⊎_elim (λ t. absurd (true≢false
      (sym (⊎_elim (has-left n l m) (λ b. has-right n l m (cut-has n m b)) (has-either n l (other_parts m) t))
      ∙ apart.0))) (λ f. f) (cases_Bool (has n (l ++ other_parts m))),
  fewer-apart l m apart.1,
)

first-apart : (l : List ℕ) → AreApart (first_part l ++ [])
first-apart [] = tt
first-apart (n ∷ l) = (refl, tt)

module _ {X : Type 0} where
  pub giver-sound : (part : Bool) (v : View X) → Sound v → Sound (giver part v)
  giver-sound part v s = record {
    mine = s.mine;
    fresh = λ k e. s.fresh k (fresh-cut part v k e);
    apart = kept part;
    numbered = s.numbered;
    counted = s.counted;
    rises = s.rises;
    capped = s.capped;
  }
    where
      kept : (b : Bool) → AreApart ((giver b v).used ++ (giver b v).fresh)
      kept true = fewer-apart v.used v.fresh s.apart
      kept false = s.apart

  pub newcomer-sound : (part : Bool) (v : View X) → Sound v → Sound (newcomer part v)
  newcomer-sound part v s = record {
    mine = sym (none-given part v v.seen s.fresh);
    fresh = λ k e. absurd (true≢false (sym e));
    apart = given part;
    numbered = s.numbered;
    counted = s.counted;
    rises = s.rises;
    capped = s.capped;
  }
    where
      given : (b : Bool) → AreApart (given_part b v ++ [])
      given true = first-apart v.fresh
      given false = tt
