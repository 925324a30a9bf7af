use Rattle.std.proofs.Common.{◌+◌, ◌≡◌, ◌≤◌, drop}
use Rattle.vm_calls.specs.Spans.{ranges_asked}
use Rattle.vm_calls.proofs.spans.ranges_among.Given as goal

abbrev pub invariant-calls : goal.invariant-calls
invariant-calls l = record {
  counted : l.count + ranges_asked (drop l.call-index l.calls) ≡ ranges_asked l.calls;
  few : l.count ≤ l.call-index;
}
