use Rattle.std.proofs.Common.{◌+◌, ◌≡◌, ◌≤◌, length}
use Rattle.vm_script.specs.{Events.most_event_lines, Scripts.most_bytes}
use Rattle.vm_script.proofs.EventRuns.{IsEventsRead}
use Rattle.vm_script.proofs.events.read_events.Given as goal

abbrev pub invariant-lines : goal.invariant-lines
invariant-lines l = record {
  read : IsEventsRead l.bytes l.shape l.groups.items l.lines.items l.rest;
  short : length l.bytes ≤ most_bytes;
  count : length l.groups.items + length l.lines.items + 1 ≡ l.number;
  few : l.number ≤ most_event_lines;
}

abbrev pub decreases-lines : goal.decreases-lines
decreases-lines l = length l.rest
