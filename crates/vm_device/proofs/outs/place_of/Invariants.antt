use Rattle.std.proofs.Common.{◌≡◌, ℕ, ◌<◌, false, slice_index_or}
use Rattle.vm_device.specs.Devices.{is_page}
use Rattle.vm_device.specs.Held.{out_page}
use Rattle.vm_device.specs.declared.outs.OutBlock.{OutBlock}
use Rattle.vm_device.proofs.outs.place_of.Given as goal

abbrev pub invariant-looking : goal.invariant-looking
invariant-looking l = (k : ℕ) (d : OutBlock) → k < l.i → is_page l.name l.page (out_page (slice_index_or l.blocks k d)) ≡ false
