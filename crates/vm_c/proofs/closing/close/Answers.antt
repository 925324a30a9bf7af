use Rattle.std.proofs.Common.{◌∙◌, ap, refl, rules, sym}
use Rattle.vm_image.specs.Blocks.{pages_of_blocks}
use Rattle.vm_step.specs.Prelude.{view}
use Rattle.vm_c.specs.declared.opened.OpenStore.{OpenStore}
use Rattle.vm_c.proofs.Images.{closed-as, words-held}
use Rattle.vm_c.proofs.closing.close.Goals as goal

pub returns-in-Ok-write_back : goal.returns-in-Ok-write_back
returns-in-Ok-write_back c =
    let words = words-held _ ∙ ap pages_of_blocks (sym c.as_slice.ensures.value) in
    let same = c.into_store.ensures ∙ ap (λ (s : OpenStore). s.store) c.into_inner.ensures in (
      c.with_hands_back-open.result.value,
      c.with_hands_back-open.ensures.took,
      record {
        words = pages_of_blocks c.as_slice.result.now;
        none = search (rules, c.out.ensures, c.if-out-ne0.false, c.deref-2.ensures);
        bytes = c.in-Ok-write_back.ensures.written;
        file = c.in-Ok-write_back.ensures.back;
        closed = closed-as (sym c.counts_of.ensures) words (ap (λ s. view s.pass) same) c.in-Ok.ensures.closed;
      },
    )

pub returns-in-Ok : goal.returns-in-Ok
returns-in-Ok c = (
  c.with_hands_back-open.result.value,
  c.with_hands_back-open.ensures.took,
  search rules,
  search (rules, c.out.ensures, c.if-out-ne0.false, c.deref-2.ensures),
)

pub returns-in-Err-Shared : goal.returns-in-Err-Shared
returns-in-Err-Shared c = (
  c.with_hands_back-open.result.value,
  c.with_hands_back-open.ensures.took,
  refl,
  search (rules, c.out.ensures, c.if-out-ne0.false, c.deref-2.ensures),
)

pub returns : goal.returns
returns c = (
  c.with_hands_back-open.result.value,
  c.with_hands_back-open.ensures.took,
  refl,
  search (rules, c.out.ensures, c.if-out-ne0.false, c.deref-2.ensures),
)
