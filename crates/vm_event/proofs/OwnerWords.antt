-- The owner word of the frame that a page stands in, and what is left of the others where it is written.
use Rattle.std.proofs.Common.{◌∙◌, ◌≡◌, ◌≢◌, ap, Option, refl, Some, sym, true, ℕ}
use Rattle.std.proofs.lemmas.Bool.{eq-eqb, eqb-true, false≢true}
use Rattle.vm_event.specs.Prelude.{at_page, frame_of, Free, Inv, Mapped, Nowhere, stands_in, upd, World}
use Rattle.vm_event.specs.{declared.event.Mapping.Mapping, Inv.FramePlace, Inv.FramePlace.Held, Step.changed_at}
use Rattle.vm_event.proofs.Upd.{upd-other}

-- one page alone stands in a frame
one-page : (x : FramePlace) (p q : ℕ) → at_page x p ≡ true → at_page x q ≡ true → p ≡ q
one-page Nowhere p q e e' = absurd (false≢true e)
one-page Free p q e e' = absurd (false≢true e)
one-page (Held a) p q e e' = absurd (false≢true e)
one-page (Mapped r) p q e e' = eqb-true p r e ∙ sym (eqb-true q r e')

-- two pages that stand in one frame are one
pub same-page : (w : World) (p q f : ℕ) → Inv w → stands_in (w.core.pages p).trans f ≡ true
    → stands_in (w.core.pages q).trans f ≡ true → p ≡ q
same-page w p q f inv here there = one-page (inv.place f) p q (sym ((inv.frames f).mapped p) ∙ here) (sym ((inv.frames f).mapped q) ∙ there)

pub stands-in : (t : Option Mapping) (m : Mapping) → t ≡ Some m → stands_in t m.frame ≡ true
stands-in t m at = ap (λ x. stands_in x m.frame) at ∙ eq-eqb m.frame m.frame refl

-- the owner word of the frame is written
pub word-written : (owners : ℕ → ℕ) (t : Option Mapping) (m : Mapping) (word : ℕ) → t ≡ Some m
    → changed_at owners (frame_of t) word ≡ upd owners m.frame word
word-written owners t m word at = ap (λ x. changed_at owners (frame_of x) word) at

-- the word of the frame of another page stays
pub word-elsewhere : (w : World) (p q word : ℕ) (m n : Mapping) → Inv w → (w.core.pages p).trans ≡ Some m
    → (w.core.pages q).trans ≡ Some n → q ≢ p → changed_at w.core.owners (frame_of (w.core.pages p).trans) word
    n.frame ≡ w.core.owners n.frame
word-elsewhere w p q word m n inv here there ne =
    ap (λ h. h n.frame) (word-written w.core.owners (w.core.pages p).trans m word here)
    ∙ upd-other w.core.owners m.frame word n.frame
    (λ e. ne (same-page w q p n.frame inv (stands-in (w.core.pages q).trans n there)
    (ap (stands_in (w.core.pages p).trans) e ∙ stands-in (w.core.pages p).trans m here)))
