use Rattle.std.proofs.Common.{take}
use Rattle.vm_group_guard.proofs.Prelude.{frame_of, length, map, mapping_of, Some, ◌≡◌}
use Rattle.vm_group_guard.proofs.translations.frames_of.Given as goal

-- the frames of the words so far
abbrev pub invariant-loop-word : goal.invariant-loop-word
invariant-loop-word l = record {
  count : length l.frames.items ≡ l.word-index;
  named : map (λ t. frame_of (mapping_of t)) (take l.word-index l.translations) ≡ map (λ f. Some f) l.frames.items;
}
