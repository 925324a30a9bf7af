use Rattle.std.proofs.Common.{◌++◌, ◌+◌, ◌≡◌, ◌≤◌, drop}
use Rattle.vm_serve.specs.from_vm_calls.Compact.{ranges_in, replies_in, told_in, wins_in}
use Rattle.vm_script.specs.Texts.{replies_text}
use Rattle.vm_endings.specs.Replies.{lines_in}
use Rattle.vm_endings.proofs.replies.add_answers.Given as goal

abbrev pub invariant-answers : goal.invariant-answers
invariant-answers l = record {
  number : l.number ≡ l.short-index;
  shown : l.shown + wins_in (drop l.short-index l.answers.short.items) ≡ wins_in l.answers.short.items;
  gathered : l.gathered + ranges_in (drop l.short-index l.answers.short.items) ≡ ranges_in l.answers.short.items;
  few : (l.shown ≤ l.short-index) × (l.gathered ≤ l.short-index);
  told : l.out.items ++ replies_text l.worker (l.short-index + 1)
      (lines_in (drop l.short-index l.calls)
      (told_in (drop l.short-index l.answers.short.items) (drop l.shown l.answers.windows.items)
      (drop l.gathered l.answers.spans.items))) ≡ l.fn.out.items ++ replies_text l.worker 1
      (lines_in l.calls (replies_in l.answers));
}
