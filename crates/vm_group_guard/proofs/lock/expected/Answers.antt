-- A word that is Unlocked or Marked is expected itself, and one with shares as the Unlocked word at its version.
use Rattle.vm_guard.proofs.Prelude.{version-within}
use Rattle.vm_guard.proofs.Expecting.{expect-resident, seize-bare, seize-same}
use Rattle.vm_guard.specs.{Denied.SameOrUnlocked}
use Rattle.vm_guard.specs.Fresh.{IsToSeize}
use Rattle.vm_group_guard.proofs.Prelude.{ap, arith, inl, inr, refl, state_of, subst, sym, UNLOCKED, word_of, ℕ, ◌∙◌}
use Rattle.vm_group_guard.proofs.Prelude.{◌≡◌}
use Rattle.vm_group_guard.proofs.lock.expected.Goals as goal

pub of-requires : goal.of-requires
of-requires c = omega (arith, c.version-version.ensures, version-within c.args.word)

pub returns-in-0-clause-ok : goal.returns-in-0-clause-ok
returns-in-0-clause-ok c =
    let bare : state_of c.args.word ≡ UNLOCKED = sym c.state.ensures ∙ c.in-0.is in (
      expect-resident c.args.word c.args.word
          (seize-same c.args.word (inl bare) (λ e. c.if-version-eq-MAX_VERSION.false (c.version-version.ensures ∙ e)))
          (inl refl) (λ e. omega (arith, bare, e)),
      inl refl,
    )

pub returns-in-254-clause-ok : goal.returns-in-254-clause-ok
returns-in-254-clause-ok c =
    let marked : state_of c.args.word ≡ 254 = sym c.state.ensures ∙ c.in-254.is in (
      expect-resident c.args.word c.args.word
          (seize-same c.args.word (inr (inl marked))
          (λ e. c.if-version-eq-MAX_VERSION.false (c.version-version.ensures ∙ e))) (inl refl)
          (λ e. omega (arith, marked, e)),
      inl refl,
    )

pub returns-in_default-2-clause-ok : goal.returns-in_default-2-clause-ok
returns-in_default-2-clause-ok c =
    let to = subst (IsToSeize c.args.word) (sym c.of.ensures)
    (seize-bare c.args.word c.version-version.result c.version-version.ensures
    (λ e. c.if-version-eq-MAX_VERSION.false (c.version-version.ensures ∙ e))) in
    let kept : SameOrUnlocked c.args.word c.of.result = inr (
      omega (arith, c.state.ensures),
      omega (arith, c.state.ensures, c.state.type_inv),
      c.of.ensures ∙ ap (λ (n : ℕ). word_of UNLOCKED n) c.version-version.ensures,
    ) in (expect-resident c.args.word c.of.result to kept (λ e. omega (arith, c.state.ensures, e)), kept)
