use Rattle.vm_group_guard.proofs.Prelude.{length, numbers, ◌+◌, ◌∷◌, ◌≡◌}
use Rattle.vm_group_guard.proofs.lock.others.Given as goal

-- the pages behind the first one, up to the k-th
abbrev pub invariant-loop-k : goal.invariant-loop-k
invariant-loop-k l = record {
  count : length l.others.items + 1 ≡ l.k;
  pages : l.head ∷ l.others.items ≡ numbers l.head l.k;
}
