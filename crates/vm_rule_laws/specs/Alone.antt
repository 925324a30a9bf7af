-- A pass that has nothing of the table.
use Rattle.std.specs.Prelude.{[], ◌≡◌}
use Rattle.vm_rule.specs.Prelude.{HoldsNothing}
use Rattle.vm_rule.specs.declared.view.View.{View}

-- no part, no share, lock, write-back, frame, page number or block, no member of a group still to be released, and no
-- page that was claimed for one
pub record HasNothing {X : Type 0} (v : View X) : Type 0 where
  pub used : v.used ≡ []
  pub fresh : v.fresh ≡ []
  pub holds : HoldsNothing v
  pub pending : v.pending ≡ []
  pub owed : v.owed ≡ []
