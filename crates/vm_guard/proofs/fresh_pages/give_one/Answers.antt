use Rattle.vm_guard.proofs.{Freshly.fresh-one, Freshly.may-claim-one, Freshly.zero-now, FreshSure.next-found}
use Rattle.vm_guard.proofs.FreshAnswers.{again-one, held-after, out-after, room-one, seized-after}
use Rattle.vm_guard.proofs.Prelude.{found_by, NextTold, refl, subst, view, ◌∙◌}
use Rattle.vm_guard.proofs.fresh_pages.give_one.Goals as goal

pub returns-then-again-x-clause-answer : goal.returns-then-again-x-clause-answer
returns-then-again-x-clause-answer g c v b = (
  refl,
  (
    c.args.one.pid,
    again-one c.args.one.pid c.args.one.version c.nload-again.result c.args.one.stands v _ _ _
        b c.nload-again.ensures.told c.if-again-x.true c.give_back.ensures.given,
  ),
)

pub furnish-first-requires-clause-frames : goal.furnish-first-requires-clause-frames
furnish-first-requires-clause-frames g c =
    (held-after _ c.nload-again.result _ _ c.nload-again.ensures.told c.requires.frames.0, c.requires.frames.1)

pub returns-clause-answer : goal.returns-clause-answer
returns-clause-answer g c v b = (
  c.args.one.pid,
  fresh-one c.args.one.pid c.args.one.version c.args.one.stands c.furnish-first.result c.args.frames.now
      c.furnish-first.new.frames (found_by c.args.one.pid c.claim.result) v b.between _ _ _ _ b.none b.loaded b.seizes
      (subst (λ n. NextTold n (view c.args.pass.now) (view c.nload-again.new.pass)) c.if-again-x.false
      c.nload-again.ensures.told) c.furnish-first.ensures.furnished c.claim.ensures.told
      c.furnish-first.ensures.guard.0
      (room-one c.args.one.pid c.args.one.version c.args.one.stands v _ b),
)

pub returns-then-again-x-clause-sure : goal.returns-then-again-x-clause-sure
returns-then-again-x-clause-sure g c a is = absurd (c.if-again-x.true (next-found c.nload-again.ensures.told a ∙ is))

pub give_back-requires-clause-seized : goal.give_back-requires-clause-seized
give_back-requires-clause-seized g c = seized-after c.requires.begun.1.seizes.seized c.nload-again.ensures.told

pub give_back-requires-clause-home : goal.give_back-requires-clause-home
give_back-requires-clause-home g c = out-after c.nload-again.ensures.told c.requires.home

pub furnish-first-requires-clause-seized : goal.furnish-first-requires-clause-seized
furnish-first-requires-clause-seized g c = seized-after c.requires.begun.1.seizes.seized c.nload-again.ensures.told

pub furnish-first-requires-clause-zero : goal.furnish-first-requires-clause-zero
furnish-first-requires-clause-zero g c tells =
    zero-now c.nload-again.ensures.told c.if-again-x.false c.requires.begun.1.seizes.seized.page tells

pub claim-requires-clause-legal : goal.claim-requires-clause-legal
claim-requires-clause-legal g c = may-claim-one _ _ _ _ _ c.furnish-first.ensures.furnished.holding
