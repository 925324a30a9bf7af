use Rattle.vm_guard.proofs.{Amid.amid-alone, FreshNone.seized-on, FreshNumbers.apart-first, FreshNumbers.apart-second, FreshSure.next-found}
use Rattle.vm_guard.proofs.{FreshSure.seized-next}
use Rattle.vm_guard.proofs.FreshAnswers.{again-two, amid-denied, held-after, out-after, room, second-denied, seized-after}
use Rattle.vm_guard.proofs.Freshly.{fresh-two, frames-left, holding-on, may-claim-two, zero-now, zero-second}
use Rattle.vm_guard.proofs.Prelude.{arith, false≢true, found_by, held-on, IsSeized, NextTold, refl, subst, sym, view, ◌+◌, ◌∙◌, ◌≤◌}
use Rattle.vm_step.proofs.Going.{goes-then}
use Rattle.vm_guard.proofs.fresh_pages.give_two.Goals as goal

pub returns-in-Err-clause-answer : goal.returns-in-Err-clause-answer
returns-in-Err-clause-answer g c v b =
    second-denied c.args.one.pid c.args.one.version c.args.one.stands c.args.frames.now v _ _ _ c.in-Err.deny
    c.denied.result b (subst (λ n. c.args.one.pid + 2 ≤ n) (sym c.requires.ready.table.is_shape.pages)
    c.requires.room)
    c.in-Err.ensures.denied c.give_back.ensures.given (c.denied.ensures.again, c.denied.ensures.worn)

pub give_back-requires-then-again-x-2-clause-seized : goal.give_back-requires-then-again-x-2-clause-seized
give_back-requires-then-again-x-2-clause-seized g c =
    let taken = c.in-Ok.ensures.taken in
    let back = rw taken.0 at c.give_back-then-again-x.ensures.given in
    seized-on (seized-after (seized-on c.requires.begun.1.seizes.seized taken.1.amid (apart-first c.args.one.pid)
    taken.1.group.0) c.nload-again.ensures.told) back.amid (apart-first c.args.one.pid) back.group.0

pub returns-then-again-x-clause-answer : goal.returns-then-again-x-clause-answer
returns-then-again-x-clause-answer g c v b =
    let x = c.args.one.pid in
    let back = rw c.in-Ok.ensures.taken.0 at c.give_back-then-again-x.ensures.given in
    let tried = again-two x c.args.one.version c.nload-again.result c.args.one.stands c.in-Ok.page.version
    c.in-Ok.page.stands v _ _ _ _ _ b
    (subst (λ n. x + 2 ≤ n) (sym c.requires.ready.table.is_shape.pages) c.requires.room)
    c.in-Ok.ensures.taken.1 c.nload-again.ensures.told c.if-again-x.true back c.give_back-then-again-x-2.ensures.given in
    (refl, (x, tried))

pub furnish-first-requires-clause-frames : goal.furnish-first-requires-clause-frames
furnish-first-requires-clause-frames g c =
    let taken = c.in-Ok.ensures.taken in (
      held-after _ c.nload-again.result _ _ c.nload-again.ensures.told
          (held-on _ _ _ c.requires.frames.0 taken.1.amid.start taken.1.keeps.frames),
      omega (arith, c.requires.frames.1),
    )

pub furnish-second-requires-clause-seized : goal.furnish-second-requires-clause-seized
furnish-second-requires-clause-seized g c =
    let taken = c.in-Ok.ensures.taken in
    let f = c.furnish-first.ensures.furnished in
    subst (λ n. IsSeized n c.in-Ok.page.version c.in-Ok.page.stands (view c.furnish-first.new.pass)) (sym taken.0)
    (seized-on (seized-after taken.1.seized c.nload-again.ensures.told) f.amid (apart-second c.args.one.pid) f.group.0)

pub claim-requires-clause-legal : goal.claim-requires-clause-legal
claim-requires-clause-legal g c =
    let x = c.args.one.pid in
    let taken = c.in-Ok.ensures.taken in
    let one = c.furnish-first.result in
    let two = c.furnish-second.result in
    let h = rw taken.0 at c.furnish-second.ensures.furnished in
    may-claim-two x one.frame two.frame one.version two.version one.dirty two.dirty (view c.furnish-second.new.pass)
    (holding-on x one.frame one.version one.dirty _ h.done (view c.furnish-first.new.pass)
    (view c.furnish-second.new.pass) c.furnish-first.ensures.furnished.holding h.amid (apart-first x)) h.holding

pub returns-clause-answer : goal.returns-clause-answer
returns-clause-answer g c v b =
    let x = c.args.one.pid in
    let taken = c.in-Ok.ensures.taken in
    let h = rw taken.0 at c.furnish-second.ensures.furnished in
    let next = subst (λ n. NextTold n (view c.seize.new.pass) (view c.nload-again.new.pass)) c.if-again-x.false
    c.nload-again.ensures.told in
    let inside = room x c.args.one.version c.args.one.stands v _ 2 b
    (subst (λ n. x + 2 ≤ n) (sym c.requires.ready.table.is_shape.pages) c.requires.room) in
    let given = fresh-two x _ _ _ _ c.furnish-first.result c.furnish-second.result _ _ _ (found_by x c.claim.result) v
    b.between _ _ _ _ _ _ b.none b.loaded b.seizes taken.1 next c.furnish-first.ensures.furnished h
    c.claim.ensures.told
    c.furnish-first.ensures.guard.0 (c.furnish-second.ensures.guard.0 ∙ taken.0) inside in
    (x, given)

pub returns-in-Err-clause-sure : goal.returns-in-Err-clause-sure
returns-in-Err-clause-sure g c a is may = absurd (false≢true (c.in-Err.ensures.sure a may))

pub returns-then-again-x-clause-sure : goal.returns-then-again-x-clause-sure
returns-then-again-x-clause-sure g c a is may =
    let taken = c.in-Ok.ensures.taken in
    absurd (c.if-again-x.true (next-found c.nload-again.ensures.told (amid-alone taken.1.amid a) ∙ seized-next taken.1 a ∙ is))

pub returns-in-Err-clause-settled : goal.returns-in-Err-clause-settled
returns-in-Err-clause-settled g c a is none = c.denied.ensures.settled (c.in-Err.ensures.settled a none)

pub returns-then-again-x-clause-settled : goal.returns-then-again-x-clause-settled
returns-then-again-x-clause-settled g c a is none =
    let taken = c.in-Ok.ensures.taken in
    absurd (c.if-again-x.true (next-found c.nload-again.ensures.told (amid-alone taken.1.amid a) ∙ seized-next taken.1 a ∙ is))

-- ---- what each call of a page asks for

pub give_back-requires-clause-seized : goal.give_back-requires-clause-seized
give_back-requires-clause-seized g c =
    let f = c.in-Err.ensures.denied in
    seized-on c.requires.begun.1.seizes.seized (amid-denied f) (apart-first c.args.one.pid) f.denied.quiet.group.1

pub give_back-requires-clause-home : goal.give_back-requires-clause-home
give_back-requires-clause-home g c = c.in-Err.ensures.denied.denied.quiet.steady.out ∙ c.requires.home

pub give_back-requires-then-again-x-clause-seized : goal.give_back-requires-then-again-x-clause-seized
give_back-requires-then-again-x-clause-seized g c =
    let taken = c.in-Ok.ensures.taken in
    subst (λ n. IsSeized n c.in-Ok.page.version c.in-Ok.page.stands (view c.nload-again.new.pass)) (sym taken.0)
    (seized-after taken.1.seized c.nload-again.ensures.told)

pub give_back-requires-then-again-x-clause-home : goal.give_back-requires-then-again-x-clause-home
give_back-requires-then-again-x-clause-home g c = out-after c.nload-again.ensures.told (c.in-Ok.ensures.taken.1.amid.out ∙ c.requires.home)

pub give_back-requires-then-again-x-2-clause-home : goal.give_back-requires-then-again-x-2-clause-home
give_back-requires-then-again-x-2-clause-home g c = c.give_back-then-again-x.ensures.given.amid.out
    ∙ out-after c.nload-again.ensures.told (c.in-Ok.ensures.taken.1.amid.out ∙ c.requires.home)

pub furnish-first-requires-clause-seized : goal.furnish-first-requires-clause-seized
furnish-first-requires-clause-seized g c =
    let taken = c.in-Ok.ensures.taken.1 in
    seized-after (seized-on c.requires.begun.1.seizes.seized taken.amid (apart-first c.args.one.pid) taken.group.0)
    c.nload-again.ensures.told

pub furnish-first-requires-clause-zero : goal.furnish-first-requires-clause-zero
furnish-first-requires-clause-zero g c tells =
    let page = c.in-Ok.ensures.taken.1.seized.page in
    zero-now c.nload-again.ensures.told c.if-again-x.false (omega (arith, page)) tells

pub furnish-second-requires-clause-zero : goal.furnish-second-requires-clause-zero
furnish-second-requires-clause-zero g c tells = zero-second c.in-Ok.ensures.taken c.nload-again.ensures.told
    c.if-again-x.false c.furnish-first.ensures.furnished tells

pub furnish-second-requires-clause-frames : goal.furnish-second-requires-clause-frames
furnish-second-requires-clause-frames g c = frames-left c.furnish-first.ensures.furnished c.requires.frames.1

pub returns-in-Err-clause-goes : goal.returns-in-Err-clause-goes
returns-in-Err-clause-goes g c = goes-then c.in-Err.ensures.goes c.give_back.ensures.goes

pub returns-then-again-x-clause-goes : goal.returns-then-again-x-clause-goes
returns-then-again-x-clause-goes g c =
    goes-then (goes-then (goes-then c.in-Ok.ensures.goes c.nload-again.ensures.goes)
    c.give_back-then-again-x.ensures.goes) c.give_back-then-again-x-2.ensures.goes

pub returns-clause-goes : goal.returns-clause-goes
returns-clause-goes g c =
    goes-then (goes-then (goes-then (goes-then c.in-Ok.ensures.goes c.nload-again.ensures.goes)
    c.furnish-first.ensures.goes) c.furnish-second.ensures.goes) c.claim.ensures.goes
