-- The pages of a group as its guards name them: so many, adjacent, from the first one on.
use Rattle.std.specs.Prelude.{◌+◌, ◌<◌, ◌≡◌, ◌≤◌, ℕ}
use Rattle.vm_rule.specs.{declared.view.TableShape.TableShape, Prelude.numbers}
use Rattle.vm_group_step.specs.Heads.{IsHead, pages_under}

-- page h is the first of a group of so many pages, or of no group and alone
pub record IsGroupAt (shape : TableShape) (h size : ℕ) : Type 0 where
  pub head : IsHead shape h
  pub pages : pages_under shape h ≡ numbers h size
  pub some : 1 ≤ size
  pub few : size ≤ 8
  pub inside : h + size ≤ shape.pages

-- page q is one of these
abbrev pub IsUnder : ℕ → ℕ → ℕ → Type 0
IsUnder h size q = (h ≤ q) × (q < h + size)
