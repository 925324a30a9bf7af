use Rattle.vm_core.specs.Prelude.{StartBundles}
use Rattle.vm_core.proofs.initial.start_bundles.Given as goal

abbrev pub invariant-loop-g : goal.invariant-loop-g
invariant-loop-g l = StartBundles l.frames l.g l.bundles.items
