use Rattle.std.proofs.Common.{◌++◌, ◌+◌, ◌≡◌, ◌≤◌, drop}
use Rattle.vm_bytes_serve.specs.from_vm_bytes_calls.KeyAnswers.{key_told_in, key_wins_in}
use Rattle.vm_bytes_replies.specs.KeyLines.{key_lines}
use Rattle.vm_bytes_replies.proofs.replies.add_answers.Given as goal

abbrev pub invariant-answers : goal.invariant-answers
invariant-answers l = record {
  number : l.number ≡ l.short-index;
  shown : l.shown + key_wins_in (drop l.short-index l.answers.short.items) ≡ key_wins_in l.answers.short.items;
  few : l.shown ≤ l.short-index;
  told : l.out.items ++ key_lines l.worker (l.short-index + 1) (drop l.short-index l.calls)
      (key_told_in (drop l.short-index l.answers.short.items) (drop l.shown l.answers.windows.items)) ≡ l.fn.out.items
      ++ key_lines l.worker 1 l.calls (key_told_in l.answers.short.items l.answers.windows.items);
}
