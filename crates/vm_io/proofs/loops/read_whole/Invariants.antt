use Rattle.std.proofs.Common.{◌≡◌, ◌+◌, ◌-◌, ◌≤◌, vec_len}
use Rattle.vm_io.specs.Causes.{SameTakes}
use Rattle.vm_io.specs.Loops.{IsFront}
use Rattle.vm_io.proofs.loops.read_whole.Given as goal

abbrev pub invariant-reading : goal.invariant-reading
invariant-reading g l = record {
  room : vec_len l.bytes ≤ l.limit;
  keeps : g.H.Host.shown l.host ≡ g.H.Host.shown l.fn.host;
  apart : g.H.Host.gives l.host ≡ g.H.Host.gives l.fn.host;
  steady : SameTakes (g.H.Host.takes l.fn.host) (g.H.Host.takes l.host) (g.H.Host.last l.fn.host) (g.H.Host.last l.host);
  front : IsFront (g.H.Host.shown l.fn.host) l.name l.bytes.items;
}

abbrev pub decreases-reading : goal.decreases-reading
decreases-reading g l = l.limit + 1 - vec_len l.bytes
