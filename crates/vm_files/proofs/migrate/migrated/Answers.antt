use Rattle.std.proofs.Common.{arith, refl}
use Rattle.vm_map.specs.Keys.{KEY_END}
use Rattle.vm_files.proofs.FilePairs.{no_twins}
use Rattle.vm_files.proofs.Migrating.{large_pages}
use Rattle.vm_files.proofs.migrate.migrated.Goals as goal

pub build-requires : goal.build-requires
build-requires c = (
  omega arith,
  (
    refl,
    (
      large_pages c.args.migrate.now.pages c.requires.pages,
      (c.requires.few, no_twins 0 KEY_END c.args.pairs.now c.requires.rise),
    ),
  ),
)
