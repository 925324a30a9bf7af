use Rattle.std.proofs.Common.{◌≡◌, ℕ, ◌<◌, false, string_bytes, slice_index_or}
use Rattle.std.specs.Str.{bytes_eq}
use Rattle.vm_io.specs.declared.store.MemFile.{MemFile}
use Rattle.vm_io.proofs.store.place_of.Given as goal

abbrev pub invariant-files : goal.invariant-files
invariant-files l = (k : ℕ) (d : MemFile) → k < l.i → bytes_eq (string_bytes (slice_index_or l.files k d).name) l.name ≡ false
