use Rattle.std.proofs.Common.{◌≤◌, length, map}
use Rattle.vm_script.specs.Orders.{most_bytes, most_lines, most_ranges}
use Rattle.vm_script.proofs.Lists.{IsReading}
use Rattle.vm_script.proofs.script.read_lists.Given as goal

abbrev pub invariant-lines : goal.invariant-lines
invariant-lines g l = record {
  reading : IsReading g.K.CallSyntax.grammar l.workers l.bytes l.rest (map (λ calls. calls.items) l.lists.items) l.number l.ranges;
  short : length l.bytes ≤ most_bytes;
  few : l.number ≤ most_lines;
  most : l.ranges ≤ most_ranges;
}

abbrev pub decreases-lines : goal.decreases-lines
decreases-lines g l = length l.rest
