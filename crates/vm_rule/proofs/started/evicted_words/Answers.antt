use Rattle.vm_rule.proofs.{Prelude.ap, Prelude.arith, Prelude.length, Prelude.listed, Prelude.ℕ, Prelude.◌++◌}
use Rattle.vm_rule.proofs.{Prelude.◌+◌, Prelude.◌/◌, Prelude.◌<◌, Prelude.◌∙◌, Prelude.◌≡◌, StartedWords.pushed-many}
use Rattle.vm_rule.proofs.started.evicted_words.Goals as goal

pub push_free-requires : goal.push_free-requires
push_free-requires g c p e =
    let low : p < length c.args.blocks.now = c.requires.claimed p e in
    omega (arith, low, c.div_ceil-spares.ensures)

pub returns : goal.returns
returns g c =
    let many : c.div_ceil-spares.result ≡ (length c.args.blocks.now + 63) / 64 = omega (arith, c.div_ceil-spares.ensures) in
    pushed-many _ _ _ _ _ _ _ _ _ _ _ _ _ _ _ _ _ _ _ _ _ many c.in_ok-words.ensures.items
    (c.in_ok-push_same.ensures ∙ ap (λ (w : ℕ). c.in_ok-words.words.items ++ listed (length c.args.blocks.now) (λ p. w)) c.of.ensures)
    c.in_ok-push_same-2.ensures
    c.in_ok-push_faults.ensures
    c.in_ok-push_same-3.ensures
    c.in_ok-push_bundles.ensures
    c.in_ok-push.ensures.items
    c.in_ok-push-2.ensures.items
    c.in_ok-push_same-4.ensures
    c.in_ok-push_free.ensures
