use Rattle.std.proofs.Common.{◌+◌, ◌≡◌, ◌≤◌, drop}
use Rattle.vm_calls.specs.Kept.{windows_asked}
use Rattle.vm_calls.proofs.compact.windows_in.Given as goal

abbrev pub invariant-calls : goal.invariant-calls
invariant-calls l = record {
  counted : l.count + windows_asked (drop l.call-index l.calls) ≡ windows_asked l.calls;
  few : l.count ≤ l.call-index;
}
