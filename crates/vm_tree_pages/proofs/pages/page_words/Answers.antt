use Rattle.std.proofs.Common.{◌∙◌}
use Rattle.vm_exmap.proofs.Handing.{held-on}
use Rattle.vm_tree_pages.proofs.pages.page_words.Goals as goal

pub returns-in_default-clause-home : goal.returns-in_default-clause-home
returns-in_default-clause-home g c = c.in_default.ensures.err.quiet.steady.out ∙ c.requires.home

pub returns-in-Ok-validate_silently-clause-home : goal.returns-in-Ok-validate_silently-clause-home
returns-in-Ok-validate_silently-clause-home g c =
    c.in-Ok-validate_silently.ensures.ok.steady.out ∙ c.read_all.ensures.loads.quiet.steady.out
    ∙ c.in-Ok.ensures.ok.1.quiet.steady.out ∙ c.requires.home

pub returns-in-Err-clause-home : goal.returns-in-Err-clause-home
returns-in-Err-clause-home g c =
    c.in-Err.ensures.err.quiet.steady.out ∙ c.read_all.ensures.loads.quiet.steady.out
    ∙ c.in-Ok.ensures.ok.1.quiet.steady.out ∙ c.requires.home

pub returns-in_default-clause-held : goal.returns-in_default-clause-held
returns-in_default-clause-held g c =
    let first = c.in_default.ensures.err.quiet.steady in held-on _ _ _ c.requires.held first.start first.frames.0

pub returns-in-Ok-validate_silently-clause-held : goal.returns-in-Ok-validate_silently-clause-held
returns-in-Ok-validate_silently-clause-held g c =
    let first = c.in-Ok.ensures.ok.1.quiet.steady in
    let loads = c.read_all.ensures.loads.quiet.steady in
    let last = c.in-Ok-validate_silently.ensures.ok.steady in
    held-on _ _ _ c.requires.held (last.start ∙ loads.start ∙ first.start) (last.frames.0 ∙ loads.frames.0 ∙ first.frames.0)

pub returns-in-Err-clause-held : goal.returns-in-Err-clause-held
returns-in-Err-clause-held g c =
    let first = c.in-Ok.ensures.ok.1.quiet.steady in
    let loads = c.read_all.ensures.loads.quiet.steady in
    let last = c.in-Err.ensures.err.quiet.steady in
    held-on _ _ _ c.requires.held (last.start ∙ loads.start ∙ first.start) (last.frames.0 ∙ loads.frames.0 ∙ first.frames.0)
