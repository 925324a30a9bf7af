use Rattle.vm_rule.proofs.Prelude.{counts_of, map, take, ◌++◌, ◌≡◌}
use Rattle.vm_rule.proofs.opening.push_faults.Given as goal

abbrev pub invariant-loop-block : goal.invariant-loop-block
invariant-loop-block g l = l.words.items ≡ l.initial.words.items ++ counts_of (map g.B.Block.stored (take l.block-index l.blocks))
