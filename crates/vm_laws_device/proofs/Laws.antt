-- Each event on a device, the next word or the hand keeps the invariant.
use Rattle.std.proofs.Common.{⊎_elim, eqb, inl, refl, ℕ}
use Rattle.std.proofs.lemmas.Bool.{cases_Bool}
use Rattle.vm_event.specs.Prelude.{Keeps, World}
use Rattle.vm_event.specs.declared.event.Event.TheVariants.{Claim, Hand, NLoad, Raise, Read, RFail, WFail, Write}
use Rattle.vm_event.proofs.Mirrors.{still}
use Rattle.vm_event.proofs.Whole.{heads-beside, owners-beside, page-alone}
use Rattle.vm_laws_device.proofs.Device.{failed-keeps, raised-keeps, written-keeps}

pub read_law : (w : World) (a p : ℕ) → Keeps w (Read a p)
read_law w a p i m = page-alone w p _ i (λ _. refl) (still refl refl refl) (i.pages p)

pub read_fault_law : (w : World) (a p : ℕ) → Keeps w (RFail a p)
read_fault_law w a p i m = page-alone w p _ i (λ _. refl) (still refl refl refl) (failed-keeps a (i.pages p) (inl m.1))

pub write_law : (w : World) (a p : ℕ) → Keeps w (Write a p)
write_law w a p i m = page-alone w p _ i (λ _. refl) (still refl refl refl) (written-keeps a i.words (i.pages p) m.1)

pub write_fault_law : (w : World) (a p : ℕ) → Keeps w (WFail a p)
write_fault_law w a p i m = page-alone w p _ i (λ _. refl) (still refl refl refl) (failed-keeps a (i.pages p) m.1.call)

pub raise_law : (w : World) (a p : ℕ) → Keeps w (Raise a p)
raise_law w a p i m = page-alone w p _ i (λ _. refl) (still refl refl refl) (raised-keeps (i.pages p))

pub next_load_law : (w : World) (a : ℕ) → Keeps w (NLoad a)
next_load_law w a i m = i

pub claim_law : (w : World) (a x n : ℕ) → Keeps w (Claim a x n)
claim_law w a x n i m =
    record {
      place = i.place;
      frames = i.frames;
      words = i.words;
      next = ⊎_elim (λ e. rw e m.inside) (λ e. rw e i.next) (cases_Bool (eqb w.core.next x));
      pages = i.pages;
      owners = owners-beside w.core _ refl refl refl i.owners;
      heads = heads-beside w.core _ refl refl i.heads;
    }

pub hand_law : (w : World) (a : ℕ) → Keeps w (Hand a)
hand_law w a i m = record {
  place = i.place;
  frames = i.frames;
  words = i.words;
  next = i.next;
  pages = i.pages;
  owners = owners-beside w.core _ refl refl refl i.owners;
  heads = heads-beside w.core _ refl refl i.heads;
}
