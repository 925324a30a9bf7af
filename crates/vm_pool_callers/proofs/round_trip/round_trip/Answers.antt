-- The release made the draft the page's last words; the sweep, the second bringing and the read left them so. A pass
-- that is alone has each call
-- succeed, by what the calls before told it of the page.
use Rattle.vm_pool_callers.proofs.{OnePage.no-fault}
use Rattle.vm_exmap.proofs.Handing.{held-on}
use Rattle.vm_pool.proofs.{Keeping.keeps-alone, Knowing.answered-free, Knowing.when-free}
use Rattle.vm_pool_callers.proofs.Prelude.{ap, arith, at, draft_of, false≢true, IfSome_then, is_readable, IsAlone}
use Rattle.vm_pool_callers.proofs.Prelude.{IsKnownFree, IsOk, known_version, known_word, rules, last_of, length, List}
use Rattle.vm_pool_callers.proofs.Prelude.{MAX_VERSION, Origin, slice_set, state_of, subst, sym, true, version_of}
use Rattle.vm_pool_callers.proofs.Prelude.{view, ℕ, ◌+◌, ◌<◌, ◌∙◌, ◌≡◌}
use Rattle.vm_page.specs.Pages.{all_zero}
use Rattle.vm_step.specs.Prelude.{IsClaimed}
use Rattle.vm_pool_callers.proofs.Prelude.{inl, inr, None, refl, Some, Version, ◌≤◌}
use Rattle.vm_pool_callers.proofs.RoundTrip.{first-locks, reads-again, same-last, same-version, set-words, some-is, steady-alone, word-back}
use Rattle.vm_pool_callers.proofs.round_trip.round_trip.Goals as goal

pub returns-in_default-clause-sure : goal.returns-in_default-clause-sure
returns-in_default-clause-sure g c can =
    let v0 = view c.args.pass.now in
    let v1 = view c.bring.new.pass in
    let locks = first-locks _ c.args.pid _ _ v0 v1 c.bring.result can.good (omega (arith, can.below))
    (c.bring.ensures.sure c.requires.alone can.out can.free)
    (when-free _ c.args.pid _ _ v0 v1 c.bring.result can.free (c.bring.ensures.table c.requires.alone)) in
    absurd (false≢true (subst (λ r. IsOk r) c.in_default.is
    (c.take.ensures.sure (keeps-alone c.bring.ensures.keeps c.requires.alone) locks.0
    (omega (arith, can.below, locks.1)))))

pub returns-in_default-clause-held : goal.returns-in_default-clause-held
returns-in_default-clause-held g c =
    let steady = c.in_default.ensures.denied.quiet.steady in
    held-on _ (view c.bring.new.pass) (view c.take.new.pass) c.bring.ensures.held steady.start steady.frames.0

pub returns-in_default-clause-home : goal.returns-in_default-clause-home
returns-in_default-clause-home g c = c.in_default.ensures.denied.quiet.steady.out ∙ c.bring.ensures.keeps.out ∙ c.requires.home

pub release-requires-clause-home : goal.release-requires-clause-home
release-requires-clause-home g c o out same =
    let clash : None ≡ Some o =
    sym (c.set.ensures.set.elsewhere.steady.out ∙ c.in-Ok.ensures.taken.1.elsewhere.steady.out
    ∙ c.bring.ensures.keeps.out ∙ c.requires.home) ∙ out in
    absurd (cc)

-- the page is in use, as it was: the pass, which is alone, has made no release since
pub release-requires-clause-claimed : goal.release-requires-clause-claimed
release-requires-clause-claimed g c tells =
    let taken = c.in-Ok.ensures.taken in
    let one : IsAlone (view c.bring.new.pass) = keeps-alone c.bring.ensures.keeps c.requires.alone in
    let two : IsAlone (view c.take.new.pass) = steady-alone taken.1.elsewhere.steady one in
    let pid : c.set.new.self.pid ≡ c.args.pid = ap (λ s. s.pid) c.set.ensures.guard ∙ taken.0 in
    let stays : (last_of (view c.set.new.pass) c.args.pid).words ≡ (last_of (view c.args.pass.now) c.args.pid).words =
    ap (λ (y : Version). y.words) (same-last _ c.args.pid _ _ two c.set.ensures.set.elsewhere.steady
    ∙ same-last _ c.args.pid _ _ one taken.1.elsewhere.steady)
    ∙ c.bring.ensures.keeps.alone.words c.requires.alone.0 c.requires.alone.1 c.args.pid in
    subst (λ (n : ℕ). IsClaimed (view c.set.new.pass) n) (sym pid) (inr (inl (ap all_zero stays ∙ c.requires.used)))

pub release-requires-clause-owner : goal.release-requires-clause-owner
release-requires-clause-owner g c tells = inr refl

pub sweep-requires : goal.sweep-requires
sweep-requires g c =
    let taken = c.in-Ok.ensures.taken.1.elsewhere.steady in
    let is = c.set.ensures.set.elsewhere.steady in
    let released = c.release.ensures.released.elsewhere.steady in
    let home = released.out ∙ is.out ∙ taken.out ∙ c.bring.ensures.keeps.out ∙ c.requires.home in
    let held = held-on _ (view c.bring.new.pass) (view c.release.new.pass) c.bring.ensures.held
    (released.start ∙ is.start ∙ taken.start) (released.frames.0 ∙ is.frames.0 ∙ taken.frames.0) in
    (search rules, (c.release.ensures.goes.ready, (home, (held, (omega arith, omega arith)))))

pub bring-requires-2 : goal.bring-requires-2
bring-requires-2 g c =
    let home =
    c.sweep.ensures.keeps.out ∙ c.release.ensures.released.elsewhere.steady.out
    ∙ c.set.ensures.set.elsewhere.steady.out ∙ c.in-Ok.ensures.taken.1.elsewhere.steady.out
    ∙ c.bring.ensures.keeps.out ∙ c.requires.home in
    (search rules, (c.sweep.ensures.goes.ready, (home, (c.sweep.ensures.held, c.requires.page.0))))

pub returns-clause-word : goal.returns-clause-word
returns-clause-word g c =
    let taken = c.in-Ok.ensures.taken in
    let same : c.set.new.self.pid ≡ c.args.pid = ap (λ s. s.pid) c.set.ensures.guard ∙ taken.0 in
    let alone : IsAlone (view c.release.new.pass) =
    steady-alone c.release.ensures.released.elsewhere.steady
    (steady-alone c.set.ensures.set.elsewhere.steady
    (steady-alone taken.1.elsewhere.steady (keeps-alone c.bring.ensures.keeps c.requires.alone))) in
    let draft : List ℕ = draft_of (view c.take.new.pass) c.args.pid in
    let words : (last_of (view c.release.new.pass) c.args.pid).words ≡ slice_set draft c.args.i c.args.w =
    set-words c.args.pid c.args.i c.args.w c.in-Ok.guard.pid c.set.new.self.pid _ _ _ _ (view c.take.new.pass)
    (view c.set.new.pass) (view c.release.new.pass) taken.0 same c.set.ensures.set c.release.ensures.released in
    let long : length draft ≡ g.row.N = taken.1.holding.size ∙ c.take.ensures.goes.ready.table.is_shape.size ∙ sym c.args.pool.now.size in
    IfSome_then c.read_word.result c.read_word.ensures.word
    (λ x is.
    is c.requires.tells
    ∙ word-back c.args.pid c.args.i c.args.w draft (view c.release.new.pass) (view c.sweep.new.pass)
    (view c.bring-2.new.pass) (view c.read_word.new.pass) alone words (omega (arith, long, c.requires.page.1))
    c.sweep.ensures.keeps c.bring-2.ensures.keeps c.read_word.ensures.alone)

pub returns-clause-sure : goal.returns-clause-sure
returns-clause-sure g c can =
    let low : known_version (view c.args.pass.now) c.args.pid + 3 < MAX_VERSION = can.below in
    let p : ℕ = c.args.pid in
    let v0 = view c.args.pass.now in
    let v1 = view c.bring.new.pass in
    let v2 = view c.take.new.pass in
    let v4 = view c.release.new.pass in
    let v5 = view c.sweep.new.pass in
    let v6 = view c.bring-2.new.pass in
    let page : p < v0.start.pages = subst (λ (n : ℕ). p < n) (sym c.requires.ready.table.is_shape.pages) c.requires.page.0 in
    let taken = c.in-Ok.ensures.taken in
    let steady-take = taken.1.elsewhere.steady in
    let steady-set = c.set.ensures.set.elsewhere.steady in
    let steady-end = c.release.ensures.released.elsewhere.steady in
    let same : c.set.new.self.pid ≡ p = ap (λ s. s.pid) c.set.ensures.guard ∙ taken.0 in
    let one : IsAlone v1 = keeps-alone c.bring.ensures.keeps c.requires.alone in
    let set : IsAlone (view c.set.new.pass) = steady-alone steady-set (steady-alone steady-take one) in
    let alone : IsAlone v4 = steady-alone steady-end set in
    let first : (last_of v1 p).version ≡ known_version v0 p + 1 =
    (answered-free v0 c.requires.alone p page c.args.iface.now.cap c.args.iface.now.fits.0 c.args.iface.now.home _ _ _
    _ v1 c.bring.result can.free c.bring.ensures.answer).version
    (no-fault p v0 v1 c.bring.result can.good (c.bring.ensures.sure c.requires.alone can.out can.free)) in
    let held : (last_of v2 p).version ≡ c.in-Ok.guard.version = taken.1.holding.at in
    let kept : (last_of v2 p).version ≡ (last_of v1 p).version = same-version _ p v1 v2 one steady-take in
    let then : c.set.new.self.version ≡ c.in-Ok.guard.version = ap (λ s. s.version) c.set.ensures.guard in
    let free-then : IsKnownFree p v4 = subst (λ (n : ℕ). IsKnownFree n v4) same (c.release.ensures.released.free set).0 in
    let most : version_of (known_word p v4) ≤ c.set.new.self.version + 1 =
    subst (λ (n : ℕ). version_of (known_word n v4) ≤ c.set.new.self.version + 1) same
    (c.release.ensures.released.free set).1 in
    let below : version_of (known_word p v4) + 1 < MAX_VERSION = omega (arith, low, first, held, kept, then, most) in
    let start-then : v4.start ≡ v0.start = steady-end.start ∙ steady-set.start ∙ steady-take.start ∙ c.bring.ensures.keeps.start in
    let reads : is_readable (state_of (known_word p v6)) ≡ true =
    reads-again _ c.bring.new.iface.cap c.sweep.new.iface.cap p _ _ _ c.sweep.result v4 v5 v6 c.bring-2.result alone
    c.bring.new.iface.fits.0 c.sweep.new.iface.fits.0 (subst (λ (o : Origin). p < o.pages) (sym start-then) page)
    free-then below
    (subst (λ (o : Origin). at 0 o.bounds p ≡ 0) (sym start-then) can.good) c.sweep.ensures.swept
    c.sweep.ensures.keeps c.bring-2.ensures.sure c.bring-2.ensures.table in
    let last : IsAlone v6 = keeps-alone c.bring-2.ensures.keeps (keeps-alone c.sweep.ensures.keeps alone) in
    some-is c.read_word.result c.args.w (c.read_word.ensures.sure last reads) (returns-clause-word g c)

pub returns-clause-held : goal.returns-clause-held
returns-clause-held g c = held-on _ (view c.bring-2.new.pass) (view c.read_word.new.pass) c.bring-2.ensures.held
    c.read_word.ensures.frames.0 c.read_word.ensures.frames.1
