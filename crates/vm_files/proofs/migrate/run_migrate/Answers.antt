use Rattle.std.proofs.Common.{◌∙◌, sym}
use Rattle.vm_reading.specs.from_vm_endings.Outside.{nothing_left, nowhere, with_shown, with_unread}
use Rattle.vm_files.proofs.Giving.{migrate-answers, migrate-cause, pages-stop, unread-stops}
use Rattle.vm_files.proofs.Migrating.{read_few, read_rise}
use Rattle.vm_files.proofs.migrate.run_migrate.Goals as goal

pub returns-then-not-are_pages-clause-gives : goal.returns-then-not-are_pages-clause-gives
returns-then-not-are_pages-clause-gives g c = λ outside left.
    pages-stop c.args.migrate.now (sym c.are_pages.ensures ∙ c.if-not-are_pages.true) (with_shown outside _) (with_unread left _)

pub returns-in-Err-clause-gives : goal.returns-in-Err-clause-gives
returns-in-Err-clause-gives g c = λ outside left.
    unread-stops c.args.migrate.now (sym c.are_pages.ensures ∙ c.if-not-are_pages.false) (with_shown outside _) (with_unread left _) _
    (c.in-Err.ensures.reads outside left)

pub migrated-requires-clause-few : goal.migrated-requires-clause-few
migrated-requires-clause-few g c =
    rw c.as_slice.ensures.value
    (read_few _ _ c.in-Ok.tree c.into_rows-rows.result (c.in-Ok.ensures.reads nowhere nothing_left) c.into_rows-rows.ensures)

pub migrated-requires-clause-rise : goal.migrated-requires-clause-rise
migrated-requires-clause-rise g c =
    rw c.as_slice.ensures.value
    (read_rise _ _ c.in-Ok.tree c.into_rows-rows.result (c.in-Ok.ensures.reads nowhere nothing_left) c.into_rows-rows.ensures)

pub returns-clause-gives : goal.returns-clause-gives
returns-clause-gives g c = λ outside left.
    migrate-answers c.args.migrate.now c.in-Ok.tree c.into_rows-rows.result c.migrated.result
    (sym c.are_pages.ensures ∙ c.if-not-are_pages.false) (with_shown outside _) (with_unread left _)
    (c.in-Ok.ensures.reads outside left) c.into_rows-rows.ensures
    (rw c.as_slice.ensures.value at c.migrated.ensures)

pub returns-clause-cause : goal.returns-clause-cause
returns-clause-cause g c = migrate-cause c.args.migrate.now _ _ _ c.migrated.result c.migrated.ensures
