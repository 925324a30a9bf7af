use Rattle.vm_tree_model.proofs.FixedLaws.{layout_64}
use Rattle.vm_tree_model.specs.Fixed.{fixed}
use Rattle.vm_tree_laws.proofs.Widths.{wide_cause, wide_pages, wide_room}
use Rattle.vm_tree_laws.proofs.kept.wide_has_a_cause.Goals as goal

pub returns-clause-any : goal.returns-clause-any
returns-clause-any c = wide_cause

pub returns-clause-words : goal.returns-clause-words
returns-clause-words c = wide_cause (fixed 64) layout_64

pub returns-clause-pages : goal.returns-clause-pages
returns-clause-pages c = wide_pages

pub returns-clause-image : goal.returns-clause-image
returns-clause-image c = wide_room
