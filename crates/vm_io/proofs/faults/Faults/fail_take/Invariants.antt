use Rattle.vm_io.proofs.faults.Faults.fail_take.Given as goal

abbrev pub ghost-of : goal.ghost-of
ghost-of a = record { bytes = a._name.now }
