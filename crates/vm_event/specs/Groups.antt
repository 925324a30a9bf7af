-- Groups of pages: adjacent pages under the state word of the first of them.
use Rattle.std.specs.List.{AllByRecursion}
use Rattle.std.specs.Prelude.{[], ◌%◌, ◌&&◌, ◌+◌, ◌∷◌, ◌≡◌, ◌≤◌, ◌⊎◌, Bool, false, if◌then◌else◌, List, nat_le, nat_lt, ℕ}

-- two, four or eight pages, from a multiple of so many, and no page past the last
pub record IsGroup (pages : ℕ) (g : ℕ × ℕ) : Type 0 where
  pub size : (g.1 ≡ 2) ⊎ ((g.1 ≡ 4) ⊎ (g.1 ≡ 8))
  pub aligned : g.0 % g.1 ≡ 0
  pub inside : g.0 + g.1 ≤ pages

-- they share no page
abbrev pub ShareNoPage : ℕ × ℕ → ℕ × ℕ → Type 0
ShareNoPage g h = (g.0 + g.1 ≤ h.0) ⊎ (h.0 + h.1 ≤ g.0)

-- each is a group, and no two share a page
abbrev pub GroupsFit : ℕ → List (ℕ × ℕ) → Type 0
GroupsFit pages [] = Unit {0}
GroupsFit pages (g ∷ gs) = IsGroup pages g × AllByRecursion (ShareNoPage g) gs × GroupsFit pages gs

-- the page is of the group
abbrev pub in_group : ℕ × ℕ → ℕ → Bool
in_group g p = nat_le g.0 p && nat_lt p (g.0 + g.1)

-- the first page of its group, and the page itself where it is in none
abbrev pub head_in : List (ℕ × ℕ) → ℕ → ℕ
head_in [] p = p
head_in (g ∷ gs) p = if in_group g p then g.0 else head_in gs p

-- the page is in no group
abbrev pub IsUngrouped : List (ℕ × ℕ) → ℕ → Type 0
IsUngrouped groups p = AllByRecursion (λ g. in_group g p ≡ false) groups
