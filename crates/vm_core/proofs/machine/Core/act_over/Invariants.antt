use Rattle.std.proofs.Common.{◌≡◌}
use Rattle.vm_core.specs.Prelude.{core_of}
use Rattle.vm_core.proofs.Over.{acted_until}
use Rattle.vm_core.proofs.machine.Core.act_over.Given as goal

abbrev pub invariant-loop-q : goal.invariant-loop-q
invariant-loop-q l = core_of l.self ≡ acted_until (core_of l.fn.self) l.a l.h l.act l.q
