use Rattle.std.proofs.Common.{◌≡◌, ℕ, ◌<◌, false, slice_index_or}
use Rattle.std.specs.Str.{bytes_eq}
use Rattle.vm_device.specs.Memory.{stored_file}
use Rattle.vm_device.specs.declared.memory.PagesFile.{PagesFile}
use Rattle.vm_device.proofs.memory.calls.place_of.Given as goal

abbrev pub invariant-looking : goal.invariant-looking
invariant-looking g l = (k : ℕ) (d : PagesFile g.row.N) → k < l.i → bytes_eq (stored_file (slice_index_or l.files k d)).name l.name ≡ false
