use Rattle.std.proofs.Common.{map}
use Rattle.vm_device.proofs.Lasting.{AreAskedTo, AreSyncedTo}
use Rattle.vm_device.proofs.whole.sync_all.Given as goal

abbrev pub invariant-loop-p : goal.invariant-loop-p
invariant-loop-p g l = record {
  synced : AreSyncedTo g.B.Block.tells (map g.B.Block.stored l.fn.blocks) (map g.B.Block.stored l.blocks) l.p l.first;
  asked : AreAskedTo (map g.B.SyncBlock.asked l.fn.blocks) (map g.B.SyncBlock.asked l.blocks) l.p;
}
