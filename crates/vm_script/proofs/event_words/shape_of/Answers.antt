use Rattle.std.proofs.Common.{◌++◌, ◌∙◌, ◌∷◌, ◌≡◌, ap₂, codes, List, rules, subst, sym, ℕ}
use Rattle.vm_event.specs.declared.event.CoreShape.{CoreShape}
use Rattle.vm_script.specs.EventLines.{IsShape}
use Rattle.vm_script.proofs.event_words.shape_of.Goals as goal
use Rattle.vm_script.proofs.EventTexts.{are_counts, cut_shape, largest, numbers, one_shape}

pub returns-then-ne : goal.returns-then-ne
returns-then-ne c = λ shape is e. let k = rw ((cut_shape _ _ _ shape c.in-Some.ensures e).0, c.as_slice.ensures) at c.if-ne.ensures in cc

pub returns-in_default-fields_of : goal.returns-in_default-fields_of
returns-in_default-fields_of c = λ shape is e. c.in_default-fields_of.ensures (numbers shape)
    (are_counts largest shape is) (cut_shape _ _ _ shape c.in-Some.ensures e).1

pub returns-then-is_shape : goal.returns-then-is_shape
returns-then-is_shape c =
    let word : c.in-Some.word.now ≡ codes "shape" = search rules in (
      c.is_shape.ensures.0 c.if-is_shape.true,
      c.in-Some.ensures.whole ∙ ap₂ (λ (a b : List ℕ). a ++ 32 ∷ b) word
          c.in-Some-fields_of.ensures.1,
    )

pub returns-else-is_shape : goal.returns-else-is_shape
returns-else-is_shape c = λ shape is e.
    let read : CoreShape = record {
      pages = c.in-Some-fields_of.pages;
      frames = c.in-Some-fields_of.frames;
      actors = c.in-Some-fields_of.actors;
      next = c.in-Some-fields_of.next;
    } in
    let same : read ≡ shape = one_shape read shape c.in-Some-fields_of.ensures.0 is
    (sym c.in-Some-fields_of.ensures.1 ∙ (cut_shape _ _ _ shape c.in-Some.ensures e).1) in
    let good = c.is_shape.ensures.1 (subst (λ (s : CoreShape). IsShape s) (sym same) is) in
    cc (good, c.if-is_shape.false)
