use Rattle.std.proofs.Common.{◌≡◌, ◌≤◌, length, map, take, true, vec_capacity}
use Rattle.vm_image.specs.File.{HaveWords}
use Rattle.vm_image.specs.Reading.{held_words}
use Rattle.vm_image.proofs.BlocksRead.{AreReadTo}
use Rattle.vm_image.proofs.reading.read_blocks.Given as goal

abbrev pub invariant-loop-p : goal.invariant-loop-p
invariant-loop-p g l = record {
  count : length l.pages.items ≡ l.p;
  room : length l.fn.blocks ≤ vec_capacity l.pages;
  words : HaveWords g.row.N l.pages.items;
  told : g.B.Block.tells ≡ true → l.pages.items ≡ take l.p (held_words (map g.B.Block.stored l.fn.blocks));
  blocks : AreReadTo g.B.Block.tells g.B.Block.stored l.fn.blocks l.blocks l.p;
}
