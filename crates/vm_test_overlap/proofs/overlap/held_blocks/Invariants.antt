use Rattle.std.specs.Vec.Iter.{into_iter_items, into_iter_len}
use Rattle.std.proofs.Common.{◌++◌, ◌≡◌, length}
use Rattle.vm_test_overlap.proofs.overlap.held_blocks.Given as goal

abbrev pub invariant-loop-inner : goal.invariant-loop-inner
invariant-loop-inner l = record {
  rest : l.yielded ++ into_iter_items l.inner-iterator ≡ into_iter_items l.initial.inner-iterator;
  len : into_iter_len l.inner-iterator ≡ length (into_iter_items l.inner-iterator);
  count : length l.blocks.items ≡ length l.yielded;
}
