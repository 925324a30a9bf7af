use Rattle.std.proofs.Common.{◌+◌, ◌<◌, ◌∙◌, ap, arith, drop, get_or, length, None}
use Rattle.std.proofs.lemmas.List.{take_rest}
use Rattle.vm_map.specs.declared.call.Call.TheVariants.{Get}
use Rattle.vm_serve.specs.from_vm_calls.Compact.{ranges_in, wins_in}
use Rattle.vm_serve.specs.from_vm_calls.declared_compact_Short_TheVariants.{Got}
use Rattle.vm_endings.proofs.Telling.{answer_told, answers_told, ranges_one, spans_left, told_long, wins_left, wins_one}
use Rattle.vm_endings.proofs.replies.add_answers.Goals as goal

pub bounds-calls-number : goal.bounds-calls-number
bounds-calls-number c =
    let test = rw c.as_slice-short-items.ensures.value at c.answers-test.true in
    omega (
      arith,
      told_long c.args.answers.now.short.items c.args.answers.now.windows.items
          c.args.answers.now.spans.items c.requires.contents.windows c.requires.contents.spans,
      c.requires.same,
      c.answers.invariant.number,
      test,
    )

pub overflow_add-number : goal.overflow_add-number
overflow_add-number c =
    let test = rw c.as_slice-short-items.ensures.value at c.answers-test.true in
    omega (
      arith,
      told_long c.args.answers.now.short.items c.args.answers.now.windows.items
          c.args.answers.now.spans.items c.requires.contents.windows c.requires.contents.spans,
      c.requires.same,
      c.requires.few,
      c.answers.invariant.number,
      test,
    )

pub answers-preserved : goal.answers-preserved
answers-preserved c =
    let i = c.answers.short-index in
    let short = c.args.answers.now.short.items in
    let windows = c.args.answers.now.windows.items in
    let spans = c.args.answers.now.spans.items in
    let inv = c.answers.invariant in
    let enough = c.requires.contents in
    let test : i < length short = rw c.as_slice-short-items.ensures.value at c.answers-test.true in
    let left = wins_left short windows i c.answers.shown (Got None) test enough.windows inv.shown in
    let kept = spans_left short spans i c.answers.gathered (Got None) test enough.spans inv.gathered in
    let shown = rw c.as_slice-short-items.ensures.value at c.shown_with-shown.ensures in
    let gathered = rw c.as_slice-short-items.ensures.value at c.gathered_with-gathered.ensures in
    let more = rw (
      c.as_slice-short-items.ensures.value,
      c.as_slice-windows.ensures.value,
      c.as_slice-spans.ensures.value,
      inv.number,
      take_rest windows c.answers.shown,
      take_rest spans c.answers.gathered,
    ) at c.in_ok-add_answer.ensures in
    let asked : i < length c.args.calls.now =
    omega (arith, told_long short windows spans enough.windows enough.spans, c.requires.same, test) in
    record {
      number = ap (λ n. n + 1) inv.number;
      shown = ap (λ n. n + wins_in (drop (i + 1) short)) shown ∙ left.1;
      gathered = ap (λ n. n + ranges_in (drop (i + 1) short)) gathered ∙ kept.1;
      few = (
        omega (arith, shown, inv.few.0, wins_one (get_or short i (Got None))),
        omega (arith, gathered, inv.few.1, ranges_one (get_or short i (Got None))),
      );
      told = rw (shown, gathered) (answer_told c.args.calls.now short windows spans c.args.worker i c.answers.shown
          c.answers.gathered (Get 0) (Got None) c.answers.out.items c.add_answer.new.out.items _ asked test left.0
          kept.0 inv.told more);
    }

pub returns : goal.returns
returns c =
    let test = rw c.as_slice-short-items.ensures.value at c.answers-test.false in
    answers_told c.args.calls.now c.args.answers.now.short.items _ _ c.args.worker _ c.answers.short-index
    c.answers.out.items _ test c.answers.invariant.told
