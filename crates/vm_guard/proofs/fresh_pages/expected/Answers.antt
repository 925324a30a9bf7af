use Rattle.vm_guard.proofs.Expecting.{seize-bare, seize-same}
use Rattle.vm_guard.proofs.Prelude.{ap, arith, inl, inr, IsToSeize, refl, subst, sym, UNLOCKED, version-within, word_of, ℕ, ◌∙◌}
use Rattle.vm_guard.proofs.fresh_pages.expected.Goals as goal

pub of-requires : goal.of-requires
of-requires c = omega (arith, c.version-version.ensures, version-within c.args.word)

pub returns-in-0-clause-ok : goal.returns-in-0-clause-ok
returns-in-0-clause-ok c = (
  seize-same c.args.word (inl (sym c.state.ensures ∙ c.in-0.is))
      (λ e. c.if-version-eq-MAX_VERSION.false (c.version-version.ensures ∙ e)),
  inl refl,
)

pub returns-in-254-clause-ok : goal.returns-in-254-clause-ok
returns-in-254-clause-ok c = (
  seize-same c.args.word (inr (inl (sym c.state.ensures ∙ c.in-254.is)))
      (λ e. c.if-version-eq-MAX_VERSION.false (c.version-version.ensures ∙ e)),
  inl refl,
)

pub returns-in-255-clause-ok : goal.returns-in-255-clause-ok
returns-in-255-clause-ok c = (
  seize-same c.args.word (inr (inr (sym c.state.ensures ∙ c.in-255.is)))
      (λ e. c.if-version-eq-MAX_VERSION.false (c.version-version.ensures ∙ e)),
  inl refl,
)

pub returns-in_default-2-clause-ok : goal.returns-in_default-2-clause-ok
returns-in_default-2-clause-ok c =
    let to = subst (IsToSeize c.args.word) (sym c.of.ensures)
    (seize-bare c.args.word c.version-version.result c.version-version.ensures
    (λ e. c.if-version-eq-MAX_VERSION.false (c.version-version.ensures ∙ e))) in (
      to,
      inr (
        omega (arith, c.state.ensures),
        omega (arith, c.state.ensures, c.state.type_inv),
        c.of.ensures
            ∙ ap (λ (n : ℕ). word_of UNLOCKED n) c.version-version.ensures,
      ),
    )
