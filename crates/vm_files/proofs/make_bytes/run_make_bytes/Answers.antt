use Rattle.std.proofs.Common.{sym, ◌∙◌}
use Rattle.vm_files.proofs.Giving.{no-pages-stop}
use Rattle.vm_files.proofs.make_bytes.run_make_bytes.Goals as goal

pub returns-then-not-are_pages-clause-gives : goal.returns-then-not-are_pages-clause-gives
returns-then-not-are_pages-clause-gives c = no-pages-stop c.args.make.now (sym c.are_pages.ensures ∙ c.if-not-are_pages.true)
