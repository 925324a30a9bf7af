use Rattle.vm_event.specs.Prelude.{in_mask}
use Rattle.vm_rule.proofs.Bundled.{has-frames_in}
use Rattle.vm_guard.proofs.{Amid.amid-alone, FreshNone.seized-on, Freshly.frames-left}
use Rattle.vm_guard.proofs.FreeBits.{count-two, first-bit, lower-some, two-bits, upper-parts, upper-some}
use Rattle.vm_guard.proofs.ReusedPages.{back-apart, back-numbers, back-once, back-spares, back-spends, denied-once}
use Rattle.vm_guard.proofs.ReusedPages.{denied-spares, denied-spends, one-apart, reused-two, second-known, zero-still}
use Rattle.vm_guard.proofs.Reusing.{denied-taken, due-among, may-give-back, took-has, took-inside}
use Rattle.vm_guard.proofs.Prelude.{[], ap, arith, false≢true, has, held-on, IsSeized, last_of, LocksNone}
use Rattle.vm_guard.proofs.Prelude.{MayBeSeized, Origin, replicate, subst, sym, true, view, ℕ, ◌<◌, ◌≡◌, ◌∙◌}
use Rattle.vm_guard.proofs.free_pages.reuse_two.Goals as goal

pub lowest_page-requires-clause-some : goal.lowest_page-requires-clause-some
lowest_page-requires-clause-some g c = lower-some c.args.g c.args.mask c.lowest-lower.result
    (count-two c.args.word c.args.mask c.requires.mask.0 c.requires.mask.1) c.lowest-lower.ensures

pub lowest_page-requires-2-clause-some : goal.lowest_page-requires-2-clause-some
lowest_page-requires-2-clause-some g c = upper-some c.args.g c.args.mask c.lowest-lower.result
    (count-two c.args.word c.args.mask c.requires.mask.0 c.requires.mask.1) c.lowest-lower.ensures

-- ---- the first page

pub seize-requires-clause-page : goal.seize-requires-clause-page
seize-requires-clause-page g c =
    let a = c.lowest_page.result in
    let is = first-bit c.args.g c.args.word c.args.mask c.lowest-lower.result a c.requires.mask c.lowest-lower.ensures
    c.lowest_page.ensures.among in
    subst (λ (n : ℕ). a < n) c.requires.ready.table.is_shape.pages (took-inside c.requires.taken.1 a is.among)

pub give_numbers-requires-clause-legal : goal.give_numbers-requires-clause-legal
give_numbers-requires-clause-legal g c some =
    let a = c.lowest_page.result in
    let is = first-bit c.args.g c.args.word c.args.mask c.lowest-lower.result a c.requires.mask c.lowest-lower.ensures
    c.lowest_page.ensures.among in
    let f = c.in-Err.ensures.denied in
    may-give-back c.requires.taken.1 c.numbers_due.result _ _ _
    (denied-spends c.args.g c.args.mask a f (has-frames_in c.args.g c.args.mask a ∙ is.among))
    f.denied.quiet.numbers some
    (λ q e. due-among c.in-Err.deny c.args.g c.args.mask c.lowest-lower.result a is q
    (subst (λ (m : ℕ). in_mask c.args.g m q ≡ true) c.numbers_due.ensures e))

pub returns-in-Err-clause-answer : goal.returns-in-Err-clause-answer
returns-in-Err-clause-answer g c v t =
    let a = c.lowest_page.result in
    let lower = c.lowest-lower.result in
    let is = first-bit c.args.g c.args.word c.args.mask c.lowest-lower.result a c.requires.mask c.lowest-lower.ensures
    c.lowest_page.ensures.among in
    let f = c.in-Err.ensures.denied in
    let among = has-frames_in c.args.g c.args.mask a ∙ is.among in
    let gives = rw c.numbers_due.ensures at c.give_numbers.ensures in
    denied-taken 2 c.args.g c.args.word c.args.mask lower a c.args.frames.now [] f.denied.done [] v _ _ _ c.in-Err.deny c.denied.result t is
    (denied-spends c.args.g c.args.mask a f among) f.denied.quiet.numbers (denied-once c.args.g c.args.mask a f among)
    (denied-spares c.args.g c.args.mask a f among) tt
    f.denied.kind f.denied.evidence (c.denied.ensures.again, c.denied.ensures.worn) gives.none gives.given

pub returns-in-Err-clause-sure : goal.returns-in-Err-clause-sure
returns-in-Err-clause-sure g c alone may =
    let a = c.lowest_page.result in
    let is = first-bit c.args.g c.args.word c.args.mask c.lowest-lower.result a c.requires.mask c.lowest-lower.ensures
    c.lowest_page.ensures.among in
    absurd (false≢true (c.in-Err.ensures.sure alone (may a is.among)))

pub returns-in-Err-clause-settled : goal.returns-in-Err-clause-settled
returns-in-Err-clause-settled g c alone none =
    let a = c.lowest_page.result in
    let is = first-bit c.args.g c.args.word c.args.mask c.lowest-lower.result a c.requires.mask c.lowest-lower.ensures
    c.lowest_page.ensures.among in
    c.denied.ensures.settled (c.in-Err.ensures.settled alone (none a is.among))

-- ---- the second page

pub seize-requires-2-clause-page : goal.seize-requires-2-clause-page
seize-requires-2-clause-page g c =
    let b = c.lowest_page-2.result in
    let u = upper-parts c.args.g c.args.mask c.lowest-lower.result
    (count-two c.args.word c.args.mask c.requires.mask.0 c.requires.mask.1) c.lowest-lower.ensures b
    c.lowest_page-2.ensures.among in
    subst (λ (n : ℕ). b < n) c.requires.ready.table.is_shape.pages (took-inside c.requires.taken.1 b u.0)

pub give_numbers-requires-in-Err-seize-clause-legal : goal.give_numbers-requires-in-Err-seize-clause-legal
give_numbers-requires-in-Err-seize-clause-legal g c some =
    let a = c.lowest_page.result in
    let b = c.lowest_page-2.result in
    let k = two-bits c.args.g c.args.word c.args.mask c.lowest-lower.result a b c.requires.mask c.lowest-lower.ensures
    c.lowest_page.ensures.among c.lowest_page-2.ensures.among in
    let taken = c.in-Ok.ensures.taken in
    let f = c.in-Err-seize.ensures.denied in
    let back = rw taken.0 at c.give_back.ensures.given in
    may-give-back c.requires.taken.1 c.numbers_due-in-Err-seize.result _ _ _
    (back-spends c.args.g c.args.mask a b k.pages k.apart taken.1 f back)
    (back-numbers c.args.g c.args.mask a b k.pages k.apart taken.1 f back) some
    (λ q e. due-among c.in-Err-seize.deny c.args.g c.args.mask _ b k.second q
    (subst (λ (m : ℕ). in_mask c.args.g m q ≡ true) c.numbers_due-in-Err-seize.ensures e))

pub returns-in-Err-seize-clause-answer : goal.returns-in-Err-seize-clause-answer
returns-in-Err-seize-clause-answer g c v t =
    let a = c.lowest_page.result in
    let b = c.lowest_page-2.result in
    let k = two-bits c.args.g c.args.word c.args.mask c.lowest-lower.result a b c.requires.mask c.lowest-lower.ensures
    c.lowest_page.ensures.among c.lowest_page-2.ensures.among in
    let taken = c.in-Ok.ensures.taken in
    let f = c.in-Err-seize.ensures.denied in
    let back = rw taken.0 at c.give_back.ensures.given in
    let gives = rw c.numbers_due-in-Err-seize.ensures at c.give_numbers-in-Err-seize.ensures in
    denied-taken 2 c.args.g c.args.word c.args.mask _ b c.args.frames.now taken.1.done f.denied.done back.done v _ _ _
    c.in-Err-seize.deny c.denied-in-Err-seize.result t k.second
    (back-spends c.args.g c.args.mask a b k.pages k.apart taken.1 f back)
    (back-numbers c.args.g c.args.mask a b k.pages k.apart taken.1 f back)
    (back-once c.args.g c.args.mask a b k.pages k.apart taken.1 f back)
    (back-spares c.args.g c.args.mask a b k.pages k.apart taken.1 f back)
    (back-apart c.args.g c.args.mask a b k.pages k.apart taken.1 f back)
    f.denied.kind f.denied.evidence (c.denied-in-Err-seize.ensures.again, c.denied-in-Err-seize.ensures.worn) gives.none gives.given

pub returns-in-Err-seize-clause-sure : goal.returns-in-Err-seize-clause-sure
returns-in-Err-seize-clause-sure g c alone may =
    let a = c.lowest_page.result in
    let b = c.lowest_page-2.result in
    let k = two-bits c.args.g c.args.word c.args.mask c.lowest-lower.result a b c.requires.mask c.lowest-lower.ensures
    c.lowest_page.ensures.among c.lowest_page-2.ensures.among in
    let s = c.in-Ok.ensures.taken.1 in
    absurd (false≢true (c.in-Err-seize.ensures.sure (amid-alone s.amid alone)
    (second-known MayBeSeized a b _ _ _ k.apart (took-inside c.requires.taken.1 b k.second.among) s alone
    (may b k.second.among))))

pub returns-in-Err-seize-clause-settled : goal.returns-in-Err-seize-clause-settled
returns-in-Err-seize-clause-settled g c alone none =
    let a = c.lowest_page.result in
    let b = c.lowest_page-2.result in
    let k = two-bits c.args.g c.args.word c.args.mask c.lowest-lower.result a b c.requires.mask c.lowest-lower.ensures
    c.lowest_page.ensures.among c.lowest_page-2.ensures.among in
    let s = c.in-Ok.ensures.taken.1 in
    c.denied-in-Err-seize.ensures.settled
    (c.in-Err-seize.ensures.settled (amid-alone s.amid alone)
    (second-known LocksNone a b _ _ _ k.apart (took-inside c.requires.taken.1 b k.second.among) s alone
    (none b k.second.among)))

-- ---- both are given

pub furnish-first-requires-clause-zero : goal.furnish-first-requires-clause-zero
furnish-first-requires-clause-zero g c tells =
    let a = c.lowest_page.result in
    let b = c.lowest_page-2.result in
    let k = two-bits c.args.g c.args.word c.args.mask c.lowest-lower.result a b c.requires.mask c.lowest-lower.ensures
    c.lowest_page.ensures.among c.lowest_page-2.ensures.among in
    let taken = c.in-Ok.ensures.taken in
    let r = c.in-Ok-seize.ensures.taken.1 in
    subst (λ (p : ℕ). (last_of (view c.seize-2.new.pass) p).words ≡ replicate (view c.seize-2.new.pass).start.size 0) (sym taken.0)
    (zero-still taken.1 r.amid (one-apart b a k.apart)
    (ap (λ (o : Origin). o.tells) (sym (r.amid.start ∙ taken.1.amid.start)) ∙ tells)
    (took-has c.requires.taken.1 a k.first.among))

pub furnish-first-requires-clause-frames : goal.furnish-first-requires-clause-frames
furnish-first-requires-clause-frames g c =
    let s = c.in-Ok.ensures.taken.1 in
    let r = c.in-Ok-seize.ensures.taken.1 in (
      held-on c.args.frames.now (view c.seize.new.pass) (view c.seize-2.new.pass)
          (held-on c.args.frames.now (view c.args.pass.now) (view c.seize.new.pass) c.requires.frames.0 s.amid.start
          s.keeps.frames) r.amid.start r.keeps.frames,
      omega (arith, c.requires.frames.1),
    )

pub furnish-second-requires-clause-seized : goal.furnish-second-requires-clause-seized
furnish-second-requires-clause-seized g c =
    let a = c.lowest_page.result in
    let b = c.lowest_page-2.result in
    let k = two-bits c.args.g c.args.word c.args.mask c.lowest-lower.result a b c.requires.mask c.lowest-lower.ensures
    c.lowest_page.ensures.among c.lowest_page-2.ensures.among in
    let taken = c.in-Ok-seize.ensures.taken in
    let f = rw c.in-Ok.ensures.taken.0 at c.furnish-first.ensures.furnished in
    subst (λ n. IsSeized n c.in-Ok-seize.page.version c.in-Ok-seize.page.stands (view c.furnish-first.new.pass))
    (sym taken.0) (seized-on taken.1.seized f.amid (one-apart a b (λ e. k.apart (sym e))) f.group.0)

pub furnish-second-requires-clause-zero : goal.furnish-second-requires-clause-zero
furnish-second-requires-clause-zero g c tells =
    let a = c.lowest_page.result in
    let b = c.lowest_page-2.result in
    let k = two-bits c.args.g c.args.word c.args.mask c.lowest-lower.result a b c.requires.mask c.lowest-lower.ensures
    c.lowest_page.ensures.among c.lowest_page-2.ensures.among in
    let s = c.in-Ok.ensures.taken.1 in
    let taken = c.in-Ok-seize.ensures.taken in
    let f = rw c.in-Ok.ensures.taken.0 at c.furnish-first.ensures.furnished in
    let tells-u = ap (λ (o : Origin). o.tells) (sym (f.amid.start ∙ taken.1.amid.start)) ∙ tells in
    let tells-y = ap (λ (o : Origin). o.tells) (sym s.amid.start) ∙ tells-u in
    subst (λ (p : ℕ). (last_of (view c.furnish-first.new.pass) p).words ≡ replicate
    (view c.furnish-first.new.pass).start.size 0) (sym taken.0)
    (zero-still taken.1 f.amid (one-apart a b (λ e. k.apart (sym e))) tells-u
    (ap (λ l. has b l) (s.numbers tells-y).0 ∙ took-has c.requires.taken.1 b k.second.among))

pub furnish-second-requires-clause-frames : goal.furnish-second-requires-clause-frames
furnish-second-requires-clause-frames g c = frames-left c.furnish-first.ensures.furnished c.requires.frames.1

pub returns-clause-answer : goal.returns-clause-answer
returns-clause-answer g c v t =
    let a = c.lowest_page.result in
    let b = c.lowest_page-2.result in
    let k = two-bits c.args.g c.args.word c.args.mask c.lowest-lower.result a b c.requires.mask c.lowest-lower.ensures
    c.lowest_page.ensures.among c.lowest_page-2.ensures.among in
    let s = c.in-Ok.ensures.taken in
    let r = c.in-Ok-seize.ensures.taken in
    let f = rw s.0 at c.furnish-first.ensures.furnished in
    let h = rw r.0 at c.furnish-second.ensures.furnished in
    reused-two a b _ _ _ _ c.furnish-first.result c.furnish-second.result _ _ _ v _ _ _ _ _ t k.pages k.apart
    k.first.among k.second.among s.1 r.1 f h (c.furnish-first.ensures.guard.0 ∙ s.0)
    (c.furnish-second.ensures.guard.0 ∙ r.0)
