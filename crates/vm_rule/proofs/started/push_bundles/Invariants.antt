use Rattle.vm_rule.proofs.Prelude.{full_bundle, listed, ◌++◌, ◌≡◌}
use Rattle.vm_rule.proofs.started.push_bundles.Given as goal

abbrev pub invariant-loop-g : goal.invariant-loop-g
invariant-loop-g l = l.words.items ≡ l.initial.words.items ++ listed l.g (full_bundle l.frames)
