use Rattle.vm_guard.proofs.FreeBits.{count-one, mask-not-none, only-bit, only-page}
use Rattle.vm_guard.proofs.ReusedPages.{denied-once, denied-spares, denied-spends, reused-one, zero-words}
use Rattle.vm_guard.proofs.Reusing.{denied-taken, due-among, may-give-back, took-has}
use Rattle.vm_rule.proofs.Bundled.{has-frames_in}
use Rattle.vm_guard.proofs.Prelude.{ap, arith, held-on, last_of, Origin, replicate, subst, sym, true, view, [], ℕ, ◌≡◌, ◌∙◌}
use Rattle.vm_event.specs.Prelude.{in_mask}
use Rattle.vm_guard.proofs.free_pages.reuse_one.Goals as goal

pub lowest_page-requires-clause-some : goal.lowest_page-requires-clause-some
lowest_page-requires-clause-some g c none = let one = count-one c.args.word c.args.mask c.requires.mask.0
    c.requires.mask.1 in mask-not-none c.args.mask (omega (arith, one)) none

pub furnish-requires-clause-zero : goal.furnish-requires-clause-zero
furnish-requires-clause-zero g c tells =
    let taken = c.in-Ok.ensures.taken in
    subst (λ (p : ℕ). (last_of (view c.seize.new.pass) p).words ≡ replicate (view c.seize.new.pass).start.size 0) (sym taken.0)
    (zero-words taken.1 (ap (λ (o : Origin). o.tells) (sym taken.1.amid.start) ∙ tells)
    (took-has c.requires.taken.1 c.lowest_page.result c.lowest_page.ensures.among))

pub furnish-requires-clause-frames : goal.furnish-requires-clause-frames
furnish-requires-clause-frames g c =
    let taken = c.in-Ok.ensures.taken in
    (held-on _ _ _ c.requires.frames.0 taken.1.amid.start taken.1.keeps.frames, omega (arith, c.requires.frames.1))

pub returns-in-Ok-clause-answer : goal.returns-in-Ok-clause-answer
returns-in-Ok-clause-answer g c v t =
    let x = c.lowest_page.result in
    let taken = c.in-Ok.ensures.taken in
    let one = count-one c.args.word c.args.mask c.requires.mask.0 c.requires.mask.1 in
    let f = rw taken.0 at c.furnish.ensures.furnished in
    reused-one x c.in-Ok.page.version c.in-Ok.page.stands c.furnish.result c.args.frames.now c.furnish.new.frames v _ _ _ t
    (only-page c.args.g c.args.mask x one c.lowest_page.ensures.among) c.lowest_page.ensures.among taken.1 f
    (c.furnish.ensures.guard.0 ∙ taken.0)

pub give_numbers-requires-clause-legal : goal.give_numbers-requires-clause-legal
give_numbers-requires-clause-legal g c some =
    let x = c.lowest_page.result in
    let here = c.lowest_page.ensures.among in
    let is = only-bit c.args.g c.args.mask x (count-one c.args.word c.args.mask c.requires.mask.0 c.requires.mask.1) here in
    let f = c.in-Err.ensures.denied in
    may-give-back c.requires.taken.1 c.numbers_due.result _ _ _
    (denied-spends c.args.g c.args.mask x f (has-frames_in c.args.g c.args.mask x ∙ here)) f.denied.quiet.numbers
    some
    (λ q e. due-among c.in-Err.deny c.args.g c.args.mask c.args.mask x is q
    (subst (λ (m : ℕ). in_mask c.args.g m q ≡ true) c.numbers_due.ensures e))

pub returns-in-Err-clause-answer : goal.returns-in-Err-clause-answer
returns-in-Err-clause-answer g c v t =
    let x = c.lowest_page.result in
    let here = c.lowest_page.ensures.among in
    let is = only-bit c.args.g c.args.mask x (count-one c.args.word c.args.mask c.requires.mask.0 c.requires.mask.1) here in
    let f = c.in-Err.ensures.denied in
    let among = has-frames_in c.args.g c.args.mask x ∙ here in
    let gives = rw c.numbers_due.ensures at c.give_numbers.ensures in
    denied-taken 1 c.args.g c.args.word c.args.mask c.args.mask x c.args.frames.now [] f.denied.done [] v _ _ _
    c.in-Err.deny c.denied.result t is
    (denied-spends c.args.g c.args.mask x f among) f.denied.quiet.numbers (denied-once c.args.g c.args.mask x f among)
    (denied-spares c.args.g c.args.mask x f among) tt
    f.denied.kind f.denied.evidence (c.denied.ensures.again, c.denied.ensures.worn) gives.none gives.given
