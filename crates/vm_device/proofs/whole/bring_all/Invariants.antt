use Rattle.std.specs.Vec.Iter.{into_iter_items, into_iter_len}
use Rattle.std.proofs.Common.{◌≡◌, ◌≤◌, ◌++◌, length, map, List}
use Rattle.vm_page.specs.Counts.{MAX_COUNT}
use Rattle.vm_block.specs.declared.stored.Stored.{Stored}
use Rattle.vm_device.specs.Devices.{OutPage}
use Rattle.vm_device.specs.Whole.{AreHome, outs_of}
use Rattle.vm_device.proofs.Homecoming.{AreHomeTo}
use Rattle.vm_device.proofs.whole.bring_all.Given as goal

abbrev pub invariant-loop-block : goal.invariant-loop-block
invariant-loop-block g l = record {
  rest : l.yielded ++ into_iter_items l.block-iterator ≡ l.fn.blocks.items;
  len : into_iter_len l.block-iterator ≡ length (into_iter_items l.block-iterator);
  page : l.p ≡ length l.yielded;
  most : (g.D.Devices.state l.fn.devices).count ≤ MAX_COUNT;
  home : (base : List OutPage) (before : List Stored) → (g.D.Devices.state l.fn.devices).outs ≡ base ++ outs_of l.name 0 before
      → length before ≡ length l.fn.blocks.items → AreHome base l.name (length l.fn.blocks.items)
      → AreHomeTo g.D.Devices.tells base before (g.D.Devices.state l.fn.devices) (g.D.Devices.state l.devices) l.name
      (map g.D.B.Block.stored l.yielded);
  answered : (g.D.Devices.state l.devices).answered ≡ (g.D.Devices.state l.fn.devices).answered;
}
