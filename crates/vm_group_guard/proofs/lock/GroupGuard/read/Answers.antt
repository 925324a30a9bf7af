use Rattle.std.proofs.Common.{slice_index_or}
use Rattle.vm_guard.proofs.{OpenReads.frame-read, QuietSteps.load-quiet}
use Rattle.vm_group_guard.proofs.Holding.{held-at, held-quiet, nowhere}
use Rattle.vm_group_guard.proofs.Prelude.{inl, refl, rules, subst, sym, view, ◌+◌, ◌<◌}
use Rattle.std.specs.Prelude.{IsSome}
use Rattle.vm_group_guard.proofs.lock.GroupGuard.read.Goals as goal

pub overflow_add-self : goal.overflow_add-self
overflow_add-self g c =
    let h = held-at _ _ _ _ c.requires.holds c.args.k c.requires.page in
    let page : c.args.self.now.head + c.args.k < c.args.words.now.table.shared.key.pages =
    subst (λ n. c.args.self.now.head + c.args.k < n) c.requires.ready.table.is_shape.pages h.page in
    search (rules, page)

pub load-requires-clause-page : goal.load-requires-clause-page
load-requires-clause-page g c =
    let is = c.requires.ready.table.is_shape in
    let h = held-at _ _ _ _ c.requires.holds c.args.k c.requires.page in
    rw c.as_slice.ensures.value (
      subst (λ n. c.args.self.now.head + c.args.k < n) is.pages h.page,
      subst (λ n. (slice_index_or c.args.self.now.stands.items c.args.k nowhere).frame < n) is.frames
          h.frame_is,
      c.requires.word,
    )

pub load-requires-clause-frame : goal.load-requires-clause-frame
load-requires-clause-frame g c =
    let h = held-at _ _ _ _ c.requires.holds c.args.k c.requires.page in
    rw c.as_slice.ensures.value
    (frame-read (view c.args.pass.now) (c.args.self.now.head + c.args.k) _ (inl h.owns) h.stands)

pub returns-clause-quiet : goal.returns-clause-quiet
returns-clause-quiet g c = (_, load-quiet _ _ _ _ _ _ c.load.ensures.told)

pub returns-clause-value : goal.returns-clause-value
returns-clause-value g c tells =
    let h = held-at _ _ _ _ c.requires.holds c.args.k c.requires.page in
    c.load.ensures.told.drafted tells h.owns (subst (λ o. IsSome o) (sym h.stands) refl)

pub returns-clause-holds : goal.returns-clause-holds
returns-clause-holds g c = held-quiet _ _ _ _ _ _ _ (load-quiet _ _ _ _ _ _ c.load.ensures.told) c.requires.holds
