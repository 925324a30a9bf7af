use Rattle.std.proofs.Common.{refl}
use Rattle.vm_test_pages.proofs.FirstParts.{held-left}
use Rattle.vm_test_pages.proofs.passes.free_frames.Goals as goal

pub returns-in-Batch-clause-own : goal.returns-in-Batch-clause-own
returns-in-Batch-clause-own g c = held-left _ _ _ (c.in-Batch.ensures.batch _ refl)
