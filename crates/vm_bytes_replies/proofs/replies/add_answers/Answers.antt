use Rattle.std.proofs.Common.{◌+◌, ◌<◌, ◌∙◌, ap, arith, drop, get_or, length, None, refl, sym}
use Rattle.std.proofs.lemmas.List.{take_rest}
use Rattle.vm_bytes_serve.specs.from_vm_bytes_calls.KeyAnswers.{key_wins_in}
use Rattle.vm_bytes_serve.specs.from_vm_bytes_calls.declared_answers_KeyShort_TheVariants.{Got}
use Rattle.vm_bytes_replies.proofs.Telling.{answer_told, answers_told, told_long, wins_left, wins_one}
use Rattle.vm_bytes_replies.proofs.replies.add_answers.Goals as goal

pub bounds-calls-number : goal.bounds-calls-number
bounds-calls-number c =
    let test = rw c.as_slice-short-items.ensures.value at c.answers-test.true in
    omega (
      arith,
      told_long c.args.answers.now.short.items c.args.answers.now.windows.items c.requires.shown,
      c.requires.same,
      c.answers.invariant.number,
      test,
    )

pub overflow_add-number : goal.overflow_add-number
overflow_add-number c =
    let test = rw c.as_slice-short-items.ensures.value at c.answers-test.true in
    omega (
      arith,
      told_long c.args.answers.now.short.items c.args.answers.now.windows.items c.requires.shown,
      c.requires.same,
      c.requires.few,
      c.answers.invariant.number,
      test,
    )

pub answers-preserved : goal.answers-preserved
answers-preserved c =
    let i = c.answers.short-index in
    let calls = c.args.calls.now in
    let short = c.args.answers.now.short.items in
    let windows = c.args.answers.now.windows.items in
    let s = get_or short i (Got None) in
    let inv = c.answers.invariant in
    let test : i < length short = rw c.as_slice-short-items.ensures.value at c.answers-test.true in
    let asked : i < length calls = omega (arith, told_long short windows c.requires.shown, c.requires.same, test) in
    let call = rw inv.number at c.index-calls-number.is in
    let left = wins_left short windows i c.answers.shown (Got None) s test refl c.requires.shown inv.shown in
    let shown = rw c.as_slice-short-items.ensures.value at c.shown_with-shown.ensures in
    let more = rw (
      c.as_slice-short-items.ensures.value,
      c.as_slice-windows.ensures.value,
      inv.number,
      take_rest windows c.answers.shown,
    ) at c.in_ok-add_answer.ensures in
    record {
      number = ap (λ n. n + 1) inv.number;
      shown = ap (λ n. n + key_wins_in (drop (i + 1) short)) shown ∙ left.1;
      few = omega (arith, shown, inv.few, wins_one s);
      told = rw shown
          (answer_told calls short windows c.args.worker i c.answers.shown c.index-calls-number.result (Got None) s
          c.answers.out.items c.add_answer.new.out.items _ asked test (sym call) refl left.0 inv.told more);
    }

pub returns : goal.returns
returns c =
    let test = rw c.as_slice-short-items.ensures.value at c.answers-test.false in
    answers_told c.args.calls.now c.args.answers.now.short.items _ c.args.worker _ c.answers.short-index
    c.answers.out.items _
    (omega (
      arith,
      told_long c.args.answers.now.short.items c.args.answers.now.windows.items c.requires.shown,
      c.requires.same,
      test,
    ))
    c.answers.invariant.told
