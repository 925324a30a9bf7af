use Rattle.std.proofs.Common.{◌+◌, ◌≡◌, ◌≤◌, drop}
use Rattle.vm_bytes_calls.specs.KeyAnswers.{key_windows_asked}
use Rattle.vm_bytes_calls.proofs.answers.windows_in.Given as goal

abbrev pub invariant-calls : goal.invariant-calls
invariant-calls l = record {
  sum : l.count + key_windows_asked (drop l.call-index l.calls) ≡ key_windows_asked l.calls;
  few : l.count ≤ l.call-index;
}
