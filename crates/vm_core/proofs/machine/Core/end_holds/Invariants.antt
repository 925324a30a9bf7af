use Rattle.std.proofs.Common.{◌≡◌}
use Rattle.vm_core.specs.Prelude.{core_of}
use Rattle.vm_core.proofs.Over.{ended_until}
use Rattle.vm_core.proofs.machine.Core.end_holds.Given as goal

abbrev pub invariant-loop-q : goal.invariant-loop-q
invariant-loop-q l = core_of l.self ≡ ended_until (core_of l.fn.self) l.a l.h l.q
