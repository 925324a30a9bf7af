use Rattle.vm_guard.proofs.{Expecting.has-shares, Upgrading.unlocked-word}
use Rattle.vm_guard.proofs.Prelude.{ap, arith, inr, IsToExpect, state_of, subst, sym, UNLOCKED, version-within}
use Rattle.vm_guard.proofs.Prelude.{version_of, word-version, word_of, ℕ, ◌∙◌, ◌≡◌}
use Rattle.vm_guard.proofs.opt.unlocked.Goals as goal

pub returns-in_default-clause-expects : goal.returns-in_default-clause-expects
returns-in_default-clause-expects c =
    let e : c.of.result ≡ word_of UNLOCKED (version_of c.args.word) = c.of.ensures ∙ ap (λ (n : ℕ). word_of UNLOCKED n) c.version.ensures in
    subst (λ n. IsToExpect n n) (sym e) (unlocked-word c.args.word c.requires.below)

pub returns-in_default-clause-version : goal.returns-in_default-clause-version
returns-in_default-clause-version c =
    ap version_of (c.of.ensures ∙ ap (λ (n : ℕ). word_of UNLOCKED n) c.version.ensures) ∙ word-version UNLOCKED
    (version_of c.args.word) (version-within c.args.word)

pub returns-in_default-clause-kept : goal.returns-in_default-clause-kept
returns-in_default-clause-kept c =
    let shares = has-shares (state_of c.args.word) c.requires.readable (λ e. omega (arith, c.state.ensures, e))
    (λ e. omega (arith, c.state.ensures, e)) in
    inr (shares.0, shares.1, c.of.ensures ∙ ap (λ (n : ℕ). word_of UNLOCKED n) c.version.ensures)
