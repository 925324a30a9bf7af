use Rattle.std.proofs.Common.{[]}
use Rattle.vm_io.proofs.faults.Faults.new.Given as goal

abbrev pub ghost-new : goal.ghost-new
ghost-new a = record { bytes = [] }
