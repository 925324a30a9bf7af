use Rattle.std.specs.List.{AllByRecursion}
use Rattle.std.proofs.Common.{◌≡◌, ◌≤◌, length}
use Rattle.vm_map.specs.History.{IsAskable}
use Rattle.vm_drive_callers.proofs.calls.puts.Given as goal

abbrev pub invariant-loop-i : goal.invariant-loop-i
invariant-loop-i l = record {
  within : l.i ≤ l.count;
  long : length l.calls.items ≡ l.i;
  askable : AllByRecursion IsAskable l.calls.items;
}
