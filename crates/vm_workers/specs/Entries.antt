-- Three entries of one pass.
use Rattle.std.specs.Prelude.{[], ◌++◌, ◌+◌, ◌∷◌, ◌≡◌, List, slice_index, ℕ}
use Rattle.vm_rule.specs.Prelude.{entries_under, Entry}
use Rattle.vm_step.specs.Prelude.{View}

-- what is said three times under this number, where it was used so often before
abbrev pub three_of : ℕ → ℕ → ℕ → List (Entry ℕ)
three_of number before said =
    record {
      number = number;
      count = before + 1;
      said = said;
    } ∷ record { number = number; count = before + 2; said = said } ∷ record { number = number; count = before + 3; said = said } ∷ []

-- a pass made these three entries under its first number, with that number's next counts, and no others
pub record SaysThree (said : ℕ) (v w : View ℕ) : Type 0 where
  pub used : w.used ≡ v.used
  pub mine : w.mine ≡ v.mine ++ three_of (slice_index v.used 0) (entries_under (slice_index v.used 0) v.mine) said

-- the pass has the number 0 alone, and these three entries, with the counts 1, 2 and 3
pub record HasThree (said : ℕ) (v : View ℕ) : Type 0 where
  pub used : v.used ≡ 0 ∷ []
  pub mine : v.mine ≡ three_of 0 0 said
