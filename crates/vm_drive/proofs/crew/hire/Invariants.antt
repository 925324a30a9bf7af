use Rattle.std.specs.Vec.{vec_capacity}
use Rattle.std.specs.Vec.Iter.{into_iter_items, into_iter_len}
use Rattle.std.proofs.Common.{◌++◌, ◌≡◌, ◌≤◌, length, vec_len}
use Rattle.vm_step.specs.Prelude.{GoesOn, view}
use Rattle.vm_drive.specs.Crews.{AreAtHome, AreHired, memories_given}
use Rattle.vm_drive.proofs.crew.hire.Given as goal

abbrev pub invariant-rooms : goal.invariant-rooms
invariant-rooms g l = record {
  rest : l.yielded ++ into_iter_items l.answers-iterator ≡ into_iter_items l.initial.answers-iterator;
  len : into_iter_len l.answers-iterator ≡ length (into_iter_items l.answers-iterator);
  goes : GoesOn l.pool.words g.B.Block.tells l.fn.pass l.pass;
  hired : AreHired l.pool.words.table.shared.key g.B.Block.tells l.pool.words.table.shared.table_id l.yielded
      (memories_given l.workers.items) (view l.fn.pass) l.workers.items (view l.pass);
  memories : memories_given l.workers.items ++ into_iter_items l.each ≡ into_iter_items l.initial.each;
  left : into_iter_len l.each ≡ length (into_iter_items l.each);
  many : length (into_iter_items l.initial.each) ≡ length (into_iter_items l.initial.answers-iterator);
  home : l.home ≡ length l.yielded;
  homes : AreAtHome 0 l.cap l.workers.items;
  count : vec_len l.workers ≡ length l.yielded;
  room : length (into_iter_items l.initial.answers-iterator) ≤ vec_capacity l.workers;
}
