use Rattle.std.proofs.Common.{rules}
use Rattle.vm_io.proofs.memory.MemHostHost.take.Goals as goal

pub returns-clause-most : goal.returns-clause-most
returns-clause-most c = record { bytes = c.in-Some.bytes.now; file = search rules; count = search rules }
