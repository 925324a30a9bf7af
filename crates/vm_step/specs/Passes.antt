-- A pass, as the clauses of the steps see it.
use Rattle.std.specs.Prelude.{◌<◌, ◌≡◌, length, ℕ}
use Rattle.vm_rule.specs.{declared.view.View.View, declared.words.Pass.Pass, Prelude.TableId, Prelude.view_of}
use Rattle.vm_step.specs.{declared.took.Took.TheVariants.Lost, declared.took.Took.TheVariants.Taken}
use Rattle.vm_step.specs.{declared.took.Took.Took}

module _ {U X : Type 0} {o : _} where
  abbrev pub view : Pass U X o → View X
  view p = view_of p.badge.views

  -- the same pass of the same table
  abbrev pub IsSamePass : Pass U X o → Pass U X o → Type 0
  IsSamePass p q = (q.badge.table_id ≡ p.badge.table_id) × (q.badge.id ≡ p.badge.id)

  -- the pass is one of this table, and has a part, without which it may not step
  abbrev pub MayStep : TableId → Pass U X o → Type 0
  MayStep t p = (p.badge.table_id ≡ t) × (0 < length (view p).used)

-- the word that an exchange found, by its answer
abbrev pub found_by : ℕ → Took → ℕ
found_by expects Taken = expects
found_by expects (Lost word) = word
