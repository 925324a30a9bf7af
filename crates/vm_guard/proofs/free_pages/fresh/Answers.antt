use Rattle.vm_guard.proofs.FreeSure.{claim-known, free-have, free-tried, all-few-known, some-few, some-known, try-known}
use Rattle.vm_guard.proofs.Searching.{looks-none, looks-some}
use Rattle.vm_guard.proofs.Prelude.{arith, held-on, MayBeSeized, view, WordPlace, ◌∙◌}
use Rattle.vm_guard.proofs.free_pages.fresh.Goals as goal

pub reuse-requires-clause-home : goal.reuse-requires-clause-home
reuse-requires-clause-home g c = (looks-some _ _ _ _ _ c.in-Some.ensures.some).others.out ∙ c.requires.home

pub reuse-requires-clause-frames : goal.reuse-requires-clause-frames
reuse-requires-clause-frames g c =
    let look = looks-some _ _ _ _ _ c.in-Some.ensures.some in (
      held-on c.args.frames.now (view c.args.pass.now) (view c.find_free.new.pass) c.requires.frames.0 look.own.start
          look.others.keeps.frames,
      c.requires.frames.1,
    )

pub next_pages-requires-clause-home : goal.next_pages-requires-clause-home
next_pages-requires-clause-home g c = (looks-none _ _ _ (c.find_free.ensures.none c.in-None.is)).others.out ∙ c.requires.home

pub next_pages-requires-clause-frames : goal.next_pages-requires-clause-frames
next_pages-requires-clause-frames g c =
    let look = looks-none _ _ _ (c.find_free.ensures.none c.in-None.is) in (
      held-on c.args.frames.now (view c.args.pass.now) (view c.find_free.new.pass) c.requires.frames.0 look.own.start
          look.others.keeps.frames,
      c.requires.frames.1,
    )

pub returns-in-Some-clause-sure : goal.returns-in-Some-clause-sure
returns-in-Some-clause-sure g c a may =
    let f = c.in-Some.ensures.some in
    let k = some-known _ _ _ _ _ f a in
    c.reuse.ensures.sure k.0 (k.1 (WordPlace.Spare c.in-Some.g) ∙ k.3) (λ mask low. free-have MayBeSeized _ _ _ mask _ _ f a may.free low)

pub returns-in-Some-clause-settled : goal.returns-in-Some-clause-settled
returns-in-Some-clause-settled g c a may =
    let f = c.in-Some.ensures.some in
    let k = some-known _ _ _ _ _ f a in
    c.reuse.ensures.settled k.0 (k.1 (WordPlace.Spare c.in-Some.g) ∙ k.3) (λ mask low. free-tried _ _ _ mask _ _ f a may.free low)

pub returns-in-Some-clause-full : goal.returns-in-Some-clause-full
returns-in-Some-clause-full g c a few past =
    absurd (some-few _ _ _ _ _ _ c.in-Some.ensures.some a c.requires.ready.table.is_shape.pages few)

pub returns-in-None-clause-sure : goal.returns-in-None-clause-sure
returns-in-None-clause-sure g c a may =
    let f = c.find_free.ensures.none c.in-None.is in
    let k = all-few-known _ _ _ f a in
    c.next_pages.ensures.sure k.0 (claim-known c.args.n _ _ (looks-none _ _ _ f).own.start k.1 (may.next k.2))

pub returns-in-None-clause-settled : goal.returns-in-None-clause-settled
returns-in-None-clause-settled g c a may =
    let f = c.find_free.ensures.none c.in-None.is in
    let k = all-few-known _ _ _ f a in
    c.next_pages.ensures.settled k.0 (try-known c.args.n _ _ (looks-none _ _ _ f).own.start k.1 (may.next k.2))

pub returns-in-None-clause-full : goal.returns-in-None-clause-full
returns-in-None-clause-full g c a few past =
    let k = all-few-known _ _ _ (c.find_free.ensures.none c.in-None.is) a in
    let next = k.1 WordPlace.Next in
    c.next_pages.ensures.full k.0 (omega (arith, next, past))
