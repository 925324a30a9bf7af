-- The looks, the mark that is taken away and the load of the translation word give each answer.
use Rattle.vm_guard.proofs.Lockings.{page-looked}
use Rattle.vm_guard.proofs.{Denials.denied-at-once, OpenReads.locked-unreadable, Validating.kept-as}
use Rattle.vm_guard.proofs.Prelude.{AgainOrNeed, ap, EVICTED, false≢true, inl, inr, is_readable, None, NoneExpected}
use Rattle.vm_guard.proofs.Prelude.{refl, state_of, subst, sym, true≢false, ◌<◌, ◌∙◌, ◌≡◌}
use Rattle.vm_guard.proofs.Starting.{began, looks-same, moved, names-frame}
use Rattle.vm_guard.proofs.Sure.{look-finds, start-open, start-version}
use Rattle.vm_guard.proofs.PageLoads.{looked-words, started-words}
use Rattle.vm_guard.proofs.opt.OptGuard.start.Goals as goal

pub returns-then-state-clause-err : goal.returns-then-state-clause-err
returns-then-state-clause-err g c =
    (denied-at-once _ AgainOrNeed NoneExpected _ _ _ _ _ c.look_silently-first.ensures.told
    (refl, sym c.state.ensures ∙ c.if-state.true) tt).0

pub returns-then-state-2-clause-err : goal.returns-then-state-2-clause-err
returns-then-state-2-clause-err g c =
    (denied-at-once _ AgainOrNeed NoneExpected _ _ _ _ _ c.look_silently-first.ensures.told
    (refl, sym c.state-2.ensures ∙ c.if-state-2.true) tt).0

pub returns-then-version-clause-err : goal.returns-then-version-clause-err
returns-then-version-clause-err g c =
    moved _ _ _ _ _ _ _ _ _ _ c.look_silently-first.ensures.told c.clear_mark.ensures.clears
    c.tload-translation.ensures.told c.look_silently-seen.ensures.told
    (inl (λ e. c.if-version.true (c.version.ensures ∙ sym e ∙ sym c.version-2.ensures)))

pub returns-then-state-3-clause-err : goal.returns-then-state-3-clause-err
returns-then-state-3-clause-err g c =
    moved _ _ _ _ _ _ _ _ _ _ c.look_silently-first.ensures.told c.clear_mark.ensures.clears
    c.tload-translation.ensures.told c.look_silently-seen.ensures.told
    (inr (sym c.state-3.ensures ∙ c.if-state-3.true))

pub unreachable-requires : goal.unreachable-requires
unreachable-requires g c =
    names-frame _ _ _ _ _ _ _ _ _ _ c.look_silently-first.ensures.told c.clear_mark.ensures.clears
    c.tload-translation.ensures.told c.look_silently-seen.ensures.told
    (subst (λ n. n < 256) c.state.ensures c.state.type_inv) (λ e. c.if-state-2.false (c.state-2.ensures ∙ e))
    (λ e. c.if-state.false (c.state.ensures ∙ e))
    (subst (λ n. n < 256) c.state-3.ensures c.state-3.type_inv) (λ e. c.if-state-3.false (c.state-3.ensures ∙ e))
    (sym c.version.ensures ∙ c.if-version.false ∙ c.version-2.ensures)
    (sym c.frame.ensures ∙ c.in-None.is)

pub returns-clause-ok : goal.returns-clause-ok
returns-clause-ok g c = (
  refl,
  began _ _ _ _ _ _ _ _ _ _ c.look_silently-first.ensures.told c.clear_mark.ensures.clears
      c.tload-translation.ensures.told c.look_silently-seen.ensures.told
      (subst (λ n. n < 256) c.state.ensures c.state.type_inv) (λ e. c.if-state-2.false (c.state-2.ensures ∙ e))
      (λ e. c.if-state.false (c.state.ensures ∙ e))
      (subst (λ n. n < 256) c.state-3.ensures c.state-3.type_inv) (λ e. c.if-state-3.false (c.state-3.ensures ∙ e))
      (sym c.version.ensures ∙ c.if-version.false ∙ c.version-2.ensures)
      _ (page-looked c.look_silently-first.ensures.told c.look_silently-first.ensures.goes.ready.table.is_shape.pages
      c.requires.page) (sym c.frame.ensures ∙ c.in-Some.is),
)

pub returns-then-state-clause-sure : goal.returns-then-state-clause-sure
returns-then-state-clause-sure g c a open_word =
    let here : c.look_silently-first.result ≡ _ = look-finds g.U.Owner.tied c.args.pid None
    c.look_silently-first.result _ _ c.look_silently-first.ensures.told a in
    let gone : state_of c.look_silently-first.result ≡ EVICTED = sym c.state.ensures ∙ c.if-state.true in
    absurd (true≢false (sym open_word ∙ ap (λ n. is_readable (state_of n)) (sym here) ∙ ap is_readable gone))

pub returns-then-state-2-clause-sure : goal.returns-then-state-2-clause-sure
returns-then-state-2-clause-sure g c a open_word =
    let here : c.look_silently-first.result ≡ _ = look-finds g.U.Owner.tied c.args.pid None
    c.look_silently-first.result _ _ c.look_silently-first.ensures.told a in
    absurd (true≢false (sym open_word ∙ ap (λ n. is_readable (state_of n)) (sym here) ∙ locked-unreadable _
    (sym c.state-2.ensures ∙ c.if-state-2.true)))

pub returns-then-version-clause-sure : goal.returns-then-version-clause-sure
returns-then-version-clause-sure g c a open_word =
    absurd (c.if-version.true (c.version.ensures
    ∙ start-version g.U.Owner.tied c.args.pid _ _ _ _ _ _ _ _ c.look_silently-first.ensures.told
    c.clear_mark.ensures.clears c.tload-translation.ensures.told c.look_silently-seen.ensures.told a
    ∙ sym c.version-2.ensures))

pub returns-then-state-3-clause-sure : goal.returns-then-state-3-clause-sure
returns-then-state-3-clause-sure g c a open_word =
    let here : c.look_silently-first.result ≡ _ = look-finds g.U.Owner.tied c.args.pid None
    c.look_silently-first.result _ _ c.look_silently-first.ensures.told a in
    absurd (start-open g.U.Owner.tied c.args.pid _ _ _ _ _ _ _ _ c.look_silently-first.ensures.told
    c.clear_mark.ensures.clears c.tload-translation.ensures.told c.look_silently-seen.ensures.told a
    (ap (λ n. is_readable (state_of n)) here ∙ open_word)
    (sym c.state-3.ensures ∙ c.if-state-3.true))

pub returns-then-state-clause-kept : goal.returns-then-state-clause-kept
returns-then-state-clause-kept g c tells =
    kept-as g.U.Owner.keeps c.args.pid _ _ _ (λ e. absurd (false≢true e)) (c.look_silently-first.ensures.kept tells)

pub returns-then-state-2-clause-kept : goal.returns-then-state-2-clause-kept
returns-then-state-2-clause-kept g c tells =
    kept-as g.U.Owner.keeps c.args.pid _ _ _ (λ e. absurd (false≢true e)) (c.look_silently-first.ensures.kept tells)

pub returns-then-version-clause-kept : goal.returns-then-version-clause-kept
returns-then-version-clause-kept g c tells =
    kept-as g.U.Owner.keeps c.args.pid _ _ _ (λ e. absurd (false≢true e)) (c.look_silently-seen.ensures.kept tells)

pub returns-then-state-3-clause-kept : goal.returns-then-state-3-clause-kept
returns-then-state-3-clause-kept g c tells =
    kept-as g.U.Owner.keeps c.args.pid _ _ _ (λ e. absurd (false≢true e)) (c.look_silently-seen.ensures.kept tells)

pub returns-clause-kept : goal.returns-clause-kept
returns-clause-kept g c tells =
    kept-as g.U.Owner.keeps c.args.pid _ _ _
    (λ _. looks-same _ _ _ _ _ _ _ _ _ _ c.look_silently-first.ensures.told c.clear_mark.ensures.clears
    c.tload-translation.ensures.told c.look_silently-seen.ensures.told
    (subst (λ n. n < 256) c.state.ensures c.state.type_inv) (λ e. c.if-state-2.false (c.state-2.ensures ∙ e))
    (λ e. c.if-state.false (c.state.ensures ∙ e))
    (subst (λ n. n < 256) c.state-3.ensures c.state-3.type_inv) (λ e. c.if-state-3.false (c.state-3.ensures ∙ e))
    (sym c.version.ensures ∙ c.if-version.false ∙ c.version-2.ensures))
    (c.look_silently-seen.ensures.kept tells)

pub returns-then-state-clause-words : goal.returns-then-state-clause-words
returns-then-state-clause-words g c = looked-words _ _ _ _ _ _ c.look_silently-first.ensures.told

pub returns-then-state-2-clause-words : goal.returns-then-state-2-clause-words
returns-then-state-2-clause-words g c = looked-words _ _ _ _ _ _ c.look_silently-first.ensures.told

pub returns-then-version-clause-words : goal.returns-then-version-clause-words
returns-then-version-clause-words g c = started-words _ _ _ _ _ _ _ _ _ _ c.look_silently-first.ensures.told
    c.clear_mark.ensures.clears c.tload-translation.ensures.told c.look_silently-seen.ensures.told

pub returns-then-state-3-clause-words : goal.returns-then-state-3-clause-words
returns-then-state-3-clause-words g c = started-words _ _ _ _ _ _ _ _ _ _ c.look_silently-first.ensures.told
    c.clear_mark.ensures.clears c.tload-translation.ensures.told c.look_silently-seen.ensures.told

pub returns-clause-words : goal.returns-clause-words
returns-clause-words g c = started-words _ _ _ _ _ _ _ _ _ _ c.look_silently-first.ensures.told
    c.clear_mark.ensures.clears c.tload-translation.ensures.told c.look_silently-seen.ensures.told
