use Rattle.std.proofs.Common.{Bor, List, Some, ap, refl, ℕ}
use Rattle.vm_files.proofs.Migrating.{is_migrated}
use Rattle.vm_files.proofs.migrate.delivery_of.Goals as goal

pub returns : goal.returns
returns c = (
  is_migrated
      c.args.migrate.now
      c.args.pages
      c.args.image.now
      c.args.pairs.now
      (record {
        file = Some (record { name = c.in_ok-file.file.name.now; bytes = c.in_ok-file.file.bytes.items });
        text = c.in_ok-text.text.items;
        status = 0;
      })
      c.in_ok-file.file.bytes.items
      c.requires.pages
      (ap (λ (name : Bor (List ℕ)). Some (record { name = name.now; bytes = c.in_ok-file.file.bytes.items })) c.in_ok-file.ensures.name)
      c.in_ok-file.ensures.bytes
      c.requires.built
      c.requires.rise
      c.in_ok-text.ensures,
  refl,
)
