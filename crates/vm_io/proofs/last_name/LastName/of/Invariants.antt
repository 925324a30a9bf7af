use Rattle.vm_io.proofs.last_name.LastName.of.Given as goal

abbrev pub ghost-new : goal.ghost-new
ghost-new g a = g.told
