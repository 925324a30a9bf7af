-- What words that were loaded of a page, one after the other, tell of that page.
use Rattle.std.specs.Prelude.{◌≡◌, ℕ, ◌≤◌, Bool, true, false, List, ◌++◌, length, slice_index}
use Rattle.std.specs.List.{All}
use Rattle.std.proofs.Common.{subst, ◌∙◌}
use Rattle.std.proofs.lemmas.List.Elements.{All-append}

-- a page of n words that has each of these words at its place
pub record IsPageWith (n : ℕ) (loaded : List (ℕ × ℕ)) (words : List ℕ) : Type 0 where
  pub size : length words ≡ n
  pub has : All (λ l. slice_index words l.0 ≡ l.1) loaded

-- Between one value of a place and another words were loaded, this many at most; and what is claimed holds of each page that has them
pub record Tells {P : Type 0} (n : ℕ) (loads : P → List (ℕ × ℕ) → P → Type 0) (p : P) (most : ℕ) (q : P)
    (claim : List ℕ → Type 0) : Type 0 where
  pub loaded : List (ℕ × ℕ)
  pub through : loads p loaded q
  pub few : length loaded ≤ most
  pub claims : (words : List ℕ) → IsPageWith n loaded words → claim words

-- the answer to whether something holds
abbrev pub IsAnswer : Bool → Type 0 → Type 0
IsAnswer answer claim = (answer ≡ true → claim) × (answer ≡ false → ¬ claim)

-- the page of a buffer, which loads leave as it is
pub record IsBuffer (page : List ℕ) (loaded : List (ℕ × ℕ)) (after : List ℕ) : Type 0 where
  pub same : after ≡ page
  pub has : All (λ l. slice_index page l.0 ≡ l.1) loaded

pub IsBuffer-join : (p q r : List ℕ) (first then : List (ℕ × ℕ)) → IsBuffer p first q → IsBuffer q then r → IsBuffer p (first ++ then) r
IsBuffer-join p q r first then a b = record {
  same = b.same ∙ a.same;
  has = All-append (λ l. slice_index p l.0 ≡ l.1) first then a.has (subst (λ w. All (λ l. slice_index w l.0 ≡ l.1) then) a.same b.has);
}
