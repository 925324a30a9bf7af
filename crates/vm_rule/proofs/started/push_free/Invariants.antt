use Rattle.vm_rule.proofs.Prelude.{free_words, listed, take, ◌++◌, ◌≡◌}
use Rattle.vm_rule.proofs.started.push_free.Given as goal

abbrev pub invariant-loop-p : goal.invariant-loop-p
invariant-loop-p l = l.words.items ≡ l.fn.words.items ++ listed l.count (free_words (take l.p-index l.free))
