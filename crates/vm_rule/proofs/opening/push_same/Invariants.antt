use Rattle.vm_rule.proofs.Prelude.{listed, ◌++◌, ◌≡◌}
use Rattle.vm_rule.proofs.opening.push_same.Given as goal

abbrev pub invariant-loop-i : goal.invariant-loop-i
invariant-loop-i l = l.words.items ≡ l.initial.words.items ++ listed l.i (λ _. l.word)
