use Rattle.std.proofs.Common.{◌-◌, ◌≤◌, length}
use Rattle.vm_io.specs.Causes.{AreLater, SameTakes}
use Rattle.vm_io.specs.Shown.{SaidFront}
use Rattle.vm_io.proofs.loops.say_all.Given as goal

abbrev pub invariant-saying : goal.invariant-saying
invariant-saying g l = record {
  within : l.at ≤ length l.bytes;
  said : SaidFront (g.H.Host.shown l.fn.host) (g.H.Host.shown l.host) l.bytes l.at;
  later : AreLater (g.H.Host.gives l.fn.host) (g.H.Host.gives l.host);
  apart : SameTakes (g.H.Host.takes l.fn.host) (g.H.Host.takes l.host) (g.H.Host.last l.fn.host) (g.H.Host.last l.host);
}

abbrev pub decreases-saying : goal.decreases-saying
decreases-saying g l = length l.bytes - l.at
