use Rattle.vm_guard.proofs.{OpenReads.frame-read, QuietSteps.load-quiet}
use Rattle.vm_guard.proofs.Prelude.{inl, IsSome, refl, subst, sym, view, ◌<◌}
use Rattle.vm_guard.proofs.exclusive.ExclusiveGuard.read.Goals as goal

pub load-requires-clause-page : goal.load-requires-clause-page
load-requires-clause-page g c =
    let is = c.requires.ready.table.is_shape in
    let h = c.requires.holds in (
      subst (λ n. c.args.self.now.pid < n) is.pages h.page,
      subst (λ n. c.args.self.now.frame < n) is.frames h.frame_is,
      c.requires.word,
    )

pub load-requires-clause-frame : goal.load-requires-clause-frame
load-requires-clause-frame g c = let h = c.requires.holds in frame-read (view c.args.pass.now) c.args.self.now.pid _ (inl h.owns) h.stands

pub returns-clause-quiet : goal.returns-clause-quiet
returns-clause-quiet g c = (_, load-quiet _ _ _ _ _ _ c.load.ensures.told)

pub returns-clause-value : goal.returns-clause-value
returns-clause-value g c tells =
    let h = c.requires.holds in
    c.load.ensures.told.drafted tells h.owns (subst (λ o. IsSome o) (sym h.stands) refl)

pub returns-clause-table : goal.returns-clause-table
returns-clause-table g c a = ((load-quiet _ _ _ _ _ _ c.load.ensures.told).steady.alone.words a.0 a.1).1
