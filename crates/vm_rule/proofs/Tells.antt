-- What the invariant tells, in full.
use Rattle.vm_event.specs.Inv.{FramePlace}
use Rattle.vm_rule.proofs.Prelude.{eq-eqb, FrameIsAt, Free, free-place, Held, held-place}
use Rattle.vm_rule.proofs.Prelude.{Inv, Mapped, mapped-place, Nowhere, refl}
use Rattle.vm_rule.proofs.Prelude.{StandsAt, State, subst, sym, Told, World, ℕ, ◌<◌, ◌∙◌, ◌≡◌}

at-place : (c : State) (f : ℕ) (x : FramePlace) → f < c.shape.frames → FrameIsAt c f x → StandsAt c f x
at-place c f Nowhere lt i = i.inside lt
at-place c f Free lt i = i.free
at-place c f (Held a) lt i = (i.inside lt, i.holds a ∙ eq-eqb a a refl)
at-place c f (Mapped p) lt i = (i.inside lt, i.mapped p ∙ eq-eqb p p refl)

only-place : (c : State) (f : ℕ) (x : FramePlace) → FrameIsAt c f x → (y : FramePlace) → StandsAt c f y → y ≡ x
only-place c f x i Nowhere s = absurd s
only-place c f x i Free s = sym (free-place x (sym i.free ∙ s))
only-place c f x i (Held a) s = sym (held-place x a (sym (i.holds a) ∙ s.1))
only-place c f x i (Mapped p) s = sym (mapped-place x p (sym (i.mapped p) ∙ s.1))

pub told_law : (w : World) → Inv w → Told w
told_law w i =
    record {
      frames = record {
        each = λ f lt. record {
          place = i.place f;
          stands = at-place w.core f (i.place f) lt (i.frames f);
          only = only-place w.core f (i.place f) (i.frames f);
        };
        past = λ f le y s. subst (StandsAt w.core f) (only-place w.core f (i.place f) (i.frames f) y s ∙ (i.frames f).outside le) s;
      };
      device = λ t p. record {
        evicted = ((i.pages p).contents t).device;
        clean = λ m e d ne. sym (((i.pages p).contents t).clean m e d) ∙ ((i.pages p).contents t).logical ne m e;
      };
      faults = λ p. (i.pages p).faults;
    }
