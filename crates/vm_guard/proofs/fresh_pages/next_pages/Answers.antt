use Rattle.vm_guard.proofs.FreshAnswers.{begins, first-denied, held-after, out-after}
use Rattle.vm_guard.proofs.FreshSure.{first-word, loaded-alone, next-now, no-room, not-full, pages-settle, second-word}
use Rattle.vm_guard.proofs.Prelude.{arith, false≢true, held-on, IsNextAnswer, LocksNone, sym, ◌∙◌, MayBeSeized, refl, subst, view, ℕ, ◌≤◌}
use Rattle.vm_guard.proofs.fresh_pages.next_pages.Goals as goal

pub returns-in-Err-clause-answer : goal.returns-in-Err-clause-answer
returns-in-Err-clause-answer g c = (refl, c.in-Err.ensures.full)

pub returns-in-Err-seize-clause-answer : goal.returns-in-Err-seize-clause-answer
returns-in-Err-seize-clause-answer g c =
    let some : 1 ≤ c.args.n = omega (arith, c.requires.few) in
    let h = c.in-Ok.ensures.room in
    first-denied c.args.n c.in-Ok.next c.args.frames.now _ _ _ c.in-Err-seize.deny c.denied.result h.loaded some
    h.room c.in-Err-seize.ensures.denied (c.denied.ensures.again, c.denied.ensures.worn)

pub give_one-requires-clause-frames : goal.give_one-requires-clause-frames
give_one-requires-clause-frames g c =
    let taken = c.in-Ok-seize.ensures.taken.1 in (
      held-on _ _ _ (held-after _ c.in-Ok.next _ _ c.in-Ok.ensures.room.loaded c.requires.frames.0) taken.amid.start
          taken.keeps.frames,
      omega (arith, c.requires.frames.1, c.if-n-eq1.true),
    )

pub give_two-requires-clause-frames : goal.give_two-requires-clause-frames
give_two-requires-clause-frames g c =
    let taken = c.in-Ok-seize.ensures.taken.1 in (
      held-on _ _ _ (held-after _ c.in-Ok.next _ _ c.in-Ok.ensures.room.loaded c.requires.frames.0) taken.amid.start
          taken.keeps.frames,
      omega (arith, c.requires.frames.1, c.if-n-eq1.false, c.requires.few),
    )

pub returns-in-Err-clause-sure : goal.returns-in-Err-clause-sure
returns-in-Err-clause-sure g c a may = no-room c.in-Err.ensures.full a may.room

pub returns-in-Err-seize-clause-sure : goal.returns-in-Err-seize-clause-sure
returns-in-Err-seize-clause-sure g c a may =
    let told = c.in-Ok.ensures.room.loaded in
    absurd (false≢true (c.in-Err-seize.ensures.sure (loaded-alone told a)
    (first-word MayBeSeized c.args.n told a may.each (omega (arith, c.requires.few)))))

pub returns-then-n-eq1-clause-sure : goal.returns-then-n-eq1-clause-sure
returns-then-n-eq1-clause-sure g c a may =
    let k = next-now c.in-Ok.ensures.room.loaded c.in-Ok-seize.ensures.taken a in c.give_one.ensures.sure k.0 k.1

pub returns-else-n-eq1-clause-sure : goal.returns-else-n-eq1-clause-sure
returns-else-n-eq1-clause-sure g c a may =
    let told = c.in-Ok.ensures.room.loaded in
    let k = next-now told c.in-Ok-seize.ensures.taken a in
    c.give_two.ensures.sure k.0 k.1
    (second-word MayBeSeized c.args.n told c.in-Ok-seize.ensures.taken a may.room may.each
    (omega (arith, c.requires.few, c.if-n-eq1.false)))

pub returns-in-Err-clause-settled : goal.returns-in-Err-clause-settled
returns-in-Err-clause-settled g c a may = no-room c.in-Err.ensures.full a may.room

pub returns-in-Err-seize-clause-settled : goal.returns-in-Err-seize-clause-settled
returns-in-Err-seize-clause-settled g c a may =
    let told = c.in-Ok.ensures.room.loaded in
    c.denied.ensures.settled
    (c.in-Err-seize.ensures.settled (loaded-alone told a)
    (first-word LocksNone c.args.n told a may.each (omega (arith, c.requires.few))))

pub returns-then-n-eq1-clause-settled : goal.returns-then-n-eq1-clause-settled
returns-then-n-eq1-clause-settled g c a may = let k = next-now c.in-Ok.ensures.room.loaded c.in-Ok-seize.ensures.taken
    a in pages-settle c.give_one.result (c.give_one.ensures.sure k.0 k.1)

pub returns-else-n-eq1-clause-settled : goal.returns-else-n-eq1-clause-settled
returns-else-n-eq1-clause-settled g c a may =
    let told = c.in-Ok.ensures.room.loaded in
    let k = next-now told c.in-Ok-seize.ensures.taken a in
    c.give_two.ensures.settled k.0 k.1
    (second-word LocksNone c.args.n told c.in-Ok-seize.ensures.taken a may.room may.each
    (omega (arith, c.requires.few, c.if-n-eq1.false)))

pub returns-in-Err-seize-clause-full : goal.returns-in-Err-seize-clause-full
returns-in-Err-seize-clause-full g c a past = absurd (not-full c.in-Ok.ensures.room a past c.requires.ready.table.is_shape.pages)

pub returns-then-n-eq1-clause-full : goal.returns-then-n-eq1-clause-full
returns-then-n-eq1-clause-full g c a past = absurd (not-full c.in-Ok.ensures.room a past c.requires.ready.table.is_shape.pages)

pub returns-else-n-eq1-clause-full : goal.returns-else-n-eq1-clause-full
returns-else-n-eq1-clause-full g c a past = absurd (not-full c.in-Ok.ensures.room a past c.requires.ready.table.is_shape.pages)

pub give_one-requires-clause-begun : goal.give_one-requires-clause-begun
give_one-requires-clause-begun g c = (view c.args.pass.now, begins c.in-Ok.ensures.room.loaded c.in-Ok-seize.ensures.taken)

pub give_two-requires-clause-begun : goal.give_two-requires-clause-begun
give_two-requires-clause-begun g c = (view c.args.pass.now, begins c.in-Ok.ensures.room.loaded c.in-Ok-seize.ensures.taken)

pub give_one-requires-clause-home : goal.give_one-requires-clause-home
give_one-requires-clause-home g c = c.in-Ok-seize.ensures.taken.1.amid.out ∙ out-after c.in-Ok.ensures.room.loaded c.requires.home

pub give_two-requires-clause-home : goal.give_two-requires-clause-home
give_two-requires-clause-home g c = c.in-Ok-seize.ensures.taken.1.amid.out ∙ out-after c.in-Ok.ensures.room.loaded c.requires.home

pub returns-then-n-eq1-clause-answer : goal.returns-then-n-eq1-clause-answer
returns-then-n-eq1-clause-answer g c =
    subst (λ (n : ℕ). IsNextAnswer n c.args.frames.now c.give_one.new.frames (view c.args.pass.now)
    (view c.give_one.new.pass) c.give_one.result) (sym c.if-n-eq1.true)
    (c.give_one.ensures.answer (view c.args.pass.now) (begins c.in-Ok.ensures.room.loaded c.in-Ok-seize.ensures.taken))

pub returns-else-n-eq1-clause-answer : goal.returns-else-n-eq1-clause-answer
returns-else-n-eq1-clause-answer g c =
    subst (λ (n : ℕ). IsNextAnswer n c.args.frames.now c.give_two.new.frames (view c.args.pass.now)
    (view c.give_two.new.pass) c.give_two.result) (omega (arith, c.requires.few, c.if-n-eq1.false))
    (c.give_two.ensures.answer (view c.args.pass.now) (begins c.in-Ok.ensures.room.loaded c.in-Ok-seize.ensures.taken))
