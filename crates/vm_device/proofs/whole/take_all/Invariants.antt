use Rattle.std.proofs.Common.{◌≤◌, map, vec_capacity}
use Rattle.vm_page.specs.Counts.{MAX_COUNT}
use Rattle.vm_device.specs.Whole.{AllAreOut}
use Rattle.vm_device.proofs.whole.take_all.Given as goal

abbrev pub invariant-loop-p : goal.invariant-loop-p
invariant-loop-p g l = record {
  room : l.pages ≤ vec_capacity l.blocks;
  most : (g.D.Devices.state l.fn.devices).count ≤ MAX_COUNT;
  out : AllAreOut g.D.Devices.tells (g.D.Devices.state l.fn.devices) (g.D.Devices.state l.devices) l.name l.p
      (map g.D.B.Block.stored l.blocks.items);
}
