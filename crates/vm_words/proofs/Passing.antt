-- Tests and options, joined and taken apart.
use Rattle.std.proofs.Common.{◌≡◌, ◌&&◌, Bool, true, false, cond, List, [], ◌∷◌, Option, Some, None, MatchOption, sym}
use Rattle.std.proofs.Common.{subst, ap₂, option_map, find}
use Rattle.std.specs.List.{list_all}
use Rattle.std.specs.Borrow.{Bor}
use Rattle.clap.specs.Words.{Text}
use Rattle.clap.proofs.WalkLemmas.{both}

-- a text that was read, or that there is none
pub text_read : (read : Option (Bor Text)) (found : Option Text) → option_map (λ s. s.now) read ≡ found
    → MatchOption read (found ≡ None) (λ text. found ≡ Some text.now)
text_read None found e = sym e
text_read (Some text) found e = sym e

-- both tests pass
pub joined : (a b : Bool) → a ≡ true → b ≡ true → (a && b) ≡ true
joined a b p q = ap₂ ◌&&◌ p q

found_passes : {X : Type 0} (test pass : X → Bool) (y : X) (ys : List X) (x : X) → find test (y ∷ ys) ≡ Some x
    → list_all pass (y ∷ ys) ≡ true
    → (find test ys ≡ Some x → list_all pass ys ≡ true → pass x ≡ true) → pass x ≡ true
found_passes {X = X} test pass y ys x e all later = go (test y) e
  where
    go : (b : Bool) → cond b (Some y) (find test ys) ≡ Some x → pass x ≡ true
    go true same = let is : y ≡ x = cc in subst (λ (z : X). pass z ≡ true) is (both (pass y) _ all).0
    go false rest = later rest (both (pass y) _ all).1

-- what is found in a list passes each test that all of the list pass
pub each_passes : {X : Type 0} (test pass : X → Bool) (xs : List X) (x : X) → find test xs ≡ Some x
    → list_all pass xs ≡ true → pass x ≡ true
each_passes test pass [] x e all = absurd cc
each_passes test pass (y ∷ ys) x e all = found_passes test pass y ys x e all (each_passes test pass ys x)
