-- The first page of a group, under whose state word the group's pages stand, and what holds of each of them.
use Rattle.std.specs.Prelude.{◌<◌, ◌≡◌, List, true, ℕ}
use Rattle.vm_event.specs.Groups.{head_in}
use Rattle.vm_owner.specs.Numbers.{has}
use Rattle.vm_rule.specs.{declared.view.TableShape.TableShape, Spread.group_of}

-- the page is one of the table's, and the first of its group, or of none
pub record IsHead (shape : TableShape) (h : ℕ) : Type 0 where
  pub page : h < shape.pages
  pub own : head_in shape.began.origin.groups h ≡ h

-- the pages that stand under it
abbrev pub pages_under : TableShape → ℕ → List ℕ
pages_under shape h = group_of shape.began.origin.groups h

-- so it is of each of them
abbrev pub EachUnder : TableShape → ℕ → (ℕ → Type 0) → Type 0
EachUnder shape h P = (q : ℕ) → has q (pages_under shape h) ≡ true → P q
