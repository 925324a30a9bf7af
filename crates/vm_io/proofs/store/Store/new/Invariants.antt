use Rattle.std.proofs.Common.{◌≡◌, ◌≤◌, map, string_bytes}
use Rattle.std.specs.Prelude.{All, vec_capacity}
use Rattle.vm_io.specs.InMemory.{named}
use Rattle.vm_io.proofs.store.Store.new.Given as goal

abbrev pub invariant-files : goal.invariant-files
invariant-files l = record {
  same : map named l.kept.items ≡ map (λ file. (string_bytes file.0, file.1.items)) l.yielded;
  roomy : All (λ file. l.room ≤ vec_capacity file.bytes) l.kept.items;
}
