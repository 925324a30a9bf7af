-- A step is its event, where the world of the table becomes what the event makes of it.
use Rattle.vm_step.proofs.Prelude.{[], ap, core_shown, Event, History, IsEvent, Legal, List, Option, Origin, Seen}
use Rattle.vm_step.proofs.Prelude.{seen, Stored, Table, View, World, world_after, world_of, ℕ, ◌≡◌}

module _ {X B : Type 0} {stored : B → Stored} {start : Origin} {s t : Table (Option B) (View X)}
    {histories : ℕ → History} {loads : ℕ → ℕ → List (ℕ × ℕ)} {e : Event} {sight : Seen} where
  pub is-event : Legal (core_shown stored start s) e → record {
    core = core_shown stored start t;
    histories = histories;
    loads = loads;
  } ≡ world_after (world_of stored start [] (λ _. []) s) e
      → seen (core_shown stored start s) e ≡ sight → IsEvent stored start s t e sight
  is-event legal world sees = record { legal = legal; core = ap (λ (y : World). y.core) world; sees = sees }
