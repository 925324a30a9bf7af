-- What the other actors know and hold does not speak of the free numbers.
use Rattle.std.specs.Prelude.{bit_or, bit_xor, Bool, ℕ}
use Rattle.std.proofs.Common.{⊎_elim, eqb}
use Rattle.std.proofs.lemmas.Bool.{cases_Bool}
use Rattle.vm_event.specs.Prelude.{upd, World}
use Rattle.vm_event.specs.Step.{given_by, taken_by}
use Rattle.vm_event.specs.declared.event.Event.TheVariants.{PBLoad, PGive, PTake}
use Rattle.vm_laws_others.specs.Leaves.{Leaves, LeavesActor, LeavesOthers}
use Rattle.vm_laws_others.proofs.Frames.{nothing-leaves}

actor-beside : (b : ℕ) (w w' : World) (spares : ℕ → ℕ) (numbers : ℕ → ℕ → Bool) → LeavesActor b w w'
    → LeavesActor b w (record w' { core = record w'.core { spares = spares; numbers = numbers } })
actor-beside b w w' spares numbers l =
    record {
      seats = l.seats;
      loads = l.loads;
      held = l.held;
      untouched = l.untouched;
      words = l.words;
      owners = l.owners;
      owned = l.owned;
      shared = l.shared;
      next = l.next;
    }

pub leaves-beside : (a : ℕ) (w w' : World) (spares : ℕ → ℕ) (numbers : ℕ → ℕ → Bool) → Leaves a w w'
    → Leaves a w (record w' { core = record w'.core { spares = spares; numbers = numbers } })
leaves-beside a w w' spares numbers l =
    record {
      shape = l.shape;
      tells = l.tells;
      pages = l.pages;
      counts = l.counts;
      next = l.next;
      others = λ b lt ne. actor-beside b w w' spares numbers (l.others b lt ne);
      last = l.last;
    }

pub spare_load-leaves : (w : World) (a g : ℕ) → LeavesOthers w (PBLoad a g)
spare_load-leaves w a g i m = nothing-leaves w a

pub take_numbers-leaves : (w : World) (a g expects mask : ℕ) → LeavesOthers w (PTake a g expects mask)
take_numbers-leaves w a g expects mask i m =
    ⊎_elim
    (λ e. rw e (leaves-beside a w w (upd w.core.spares g (bit_xor expects mask)) (taken_by w.core.numbers a g mask) (nothing-leaves w a)))
    (λ e. rw e (nothing-leaves w a))
    (cases_Bool (eqb (w.core.spares g) expects))

pub give_numbers-leaves : (w : World) (a g mask : ℕ) → LeavesOthers w (PGive a g mask)
give_numbers-leaves w a g mask i m = leaves-beside a w w (upd w.core.spares g (bit_or (w.core.spares g) mask))
    (given_by w.core.numbers a g mask) (nothing-leaves w a)
