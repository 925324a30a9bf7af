use Rattle.std.proofs.Common.{take}
use Rattle.vm_group_guard.proofs.Prelude.{length, map, mapping_of, ◌≡◌}
use Rattle.vm_group_guard.specs.Locking.{standing_mapping}
use Rattle.vm_group_guard.proofs.lock.standings.Given as goal

-- where the pages of the words so far stand
abbrev pub invariant-loop-word : goal.invariant-loop-word
invariant-loop-word l = record {
  count : length l.stands.items ≡ l.word-index;
  named : map (λ t. mapping_of t) (take l.word-index l.translations) ≡ map standing_mapping l.stands.items;
}
