use Rattle.std.proofs.Common.{◌≡◌, length}
use Rattle.vm_rule.specs.Prelude.{Each}
use Rattle.vm_calls.specs.Spans.{IsEmptySpan}
use Rattle.vm_calls.proofs.spans.spans_of.Given as goal

abbrev pub invariant-spans : goal.invariant-spans
invariant-spans g l = record {
  count : length l.spans.items ≡ l._span;
  empty : Each (IsEmptySpan g.row.N) l.spans.items;
}
