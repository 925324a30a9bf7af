use Rattle.std.proofs.Common.{◌∙◌}
use Rattle.vm_exmap.proofs.Handing.{held-on}
use Rattle.vm_tree_pages.proofs.pages.touch.Goals as goal

pub returns-in_default-clause-home : goal.returns-in_default-clause-home
returns-in_default-clause-home c = c.in_default.ensures.denied.quiet.steady.out ∙ c.requires.home

pub returns-in_default-clause-held : goal.returns-in_default-clause-held
returns-in_default-clause-held c =
    let denied = c.in_default.ensures.denied.quiet.steady in held-on _ _ _ c.requires.held denied.start denied.frames.0

pub returns-clause-home : goal.returns-clause-home
returns-clause-home c =
    c.release.ensures.released.elsewhere.steady.out ∙ c.in-Ok.ensures.taken.1.elsewhere.steady.out ∙ c.requires.home

pub returns-clause-held : goal.returns-clause-held
returns-clause-held c =
    let taken = c.in-Ok.ensures.taken.1.elsewhere.steady in
    let released = c.release.ensures.released.elsewhere.steady in
    held-on _ _ _ c.requires.held (released.start ∙ taken.start) (released.frames.0 ∙ taken.frames.0)
