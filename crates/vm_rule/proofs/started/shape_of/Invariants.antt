use Rattle.vm_rule.proofs.started.shape_of.Given as goal

abbrev pub ghost-new : goal.ghost-new
ghost-new g a = g.told
