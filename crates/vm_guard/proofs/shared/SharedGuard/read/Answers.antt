use Rattle.vm_guard.proofs.{OpenReads.frame-read, QuietSteps.load-quiet}
use Rattle.vm_guard.proofs.Prelude.{ap, inr, Some, subst, view, ◌<◌, ◌∙◌}
use Rattle.vm_guard.proofs.shared.SharedGuard.read.Goals as goal

pub load-requires-clause-page : goal.load-requires-clause-page
load-requires-clause-page g c =
    let is = c.requires.ready.table.is_shape in
    let s = c.requires.shares in (
      subst (λ n. c.args.self.now.pid < n) is.pages s.page,
      subst (λ n. c.args.self.now.frame < n) is.frames s.frame_is,
      c.requires.word,
    )

pub load-requires-clause-frame : goal.load-requires-clause-frame
load-requires-clause-frame g c =
    let s = c.requires.shares in
    frame-read (view c.args.pass.now) c.args.self.now.pid s.stands.0 (inr s.has_share) s.stands.1 ∙ ap Some s.stands.2

pub returns-clause-quiet : goal.returns-clause-quiet
returns-clause-quiet g c = (_, load-quiet _ _ _ _ _ _ c.load.ensures.told)

pub returns-clause-table : goal.returns-clause-table
returns-clause-table g c a = ((load-quiet _ _ _ _ _ _ c.load.ensures.told).steady.alone.words a.0 a.1).1
