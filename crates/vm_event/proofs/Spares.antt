-- The invariant does not speak of the free numbers.
use Rattle.std.specs.Prelude.{Bool, ℕ}
use Rattle.std.proofs.Common.{refl}
use Rattle.vm_event.specs.Prelude.{Inv, World}
use Rattle.vm_event.proofs.Whole.{heads-beside, owners-beside}

pub inv-beside : (w : World) (spares : ℕ → ℕ) (numbers : ℕ → ℕ → Bool) → Inv w → Inv (record w {
  core = record w.core { spares = spares; numbers = numbers };
})
inv-beside w spares numbers i =
    record {
      place = i.place;
      frames = i.frames;
      words = i.words;
      next = i.next;
      pages = i.pages;
      owners = owners-beside w.core _ refl refl refl i.owners;
      heads = heads-beside w.core _ refl refl i.heads;
    }
