-- An owner word that is written, and the frame whose owner word an actor may write: it is a frame of the core.
use Rattle.std.specs.Prelude.{IsSome}
use Rattle.std.proofs.Common.{◌<◌, ◌≡◌, ap, arith, Bool, length, None, Option, refl, slice_set, Some, subst, sym, ℕ}
use Rattle.vm_event.specs.Prelude.{frame_of, NamesActorAndPage, State, upd}
use Rattle.vm_core.specs.Prelude.{core_of, CoreData, CoreFits, HeldFrame}
use Rattle.vm_event.specs.{declared.event.Mapping.Mapping}
use Rattle.vm_core.specs.{CoreOf.OwnedFrame}
use Rattle.vm_event.proofs.At.{at_set}
use Rattle.vm_core.proofs.CorePages.{frame-in}

frame-is : (t : Option Mapping) (f : ℕ) → frame_of t ≡ Some f → (dirty : Bool) × (t ≡ Some (record { frame = f; dirty = dirty }))
frame-is None f e = absurd (let no : ⊥ = cc in no)
frame-is (Some m) f e =
    let same : m.frame ≡ f = cc in
    (m.dirty, ap (λ g. Some (record { frame = g; dirty = m.dirty })) same)

pub owned-frame : (c : CoreData) (a p : ℕ) (o : Option ℕ) → CoreFits c → NamesActorAndPage (core_of c) a p
    → HeldFrame ((core_of c).pages p) a o → OwnedFrame (core_of c) a p o
owned-frame c a p None i n h = λ m. h m.page
owned-frame c a p (Some f) i n h =
    let is = frame-is ((core_of c).pages p).trans f h.1 in
    let lp : p < length c.pages = omega (arith, i.pages, n.page) in (
      record { names = n; page = record { owns = h.0; resident = subst IsSome (sym is.1) refl } },
      h.1,
      frame-in c.pages c.shape.frames p f is.0 lp i.mapped is.1,
    )

-- an owner word is written
pub core-owner : (c : CoreData) (f w : ℕ) → f < length c.owners
    → core_of (record c { owners = slice_set c.owners f w }) ≡ record (core_of c) { owners = upd (core_of c).owners f w }
core-owner c f w lt = ap {B = State} (λ words. record (core_of c) { owners = words }) (at_set 0 c.owners f w lt)
