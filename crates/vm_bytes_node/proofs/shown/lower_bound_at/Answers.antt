-- The pair before the place has the key, or as many are lower.
use Rattle.std.proofs.Common.{◌≡◌, ◌≢◌, ◌⊎◌, inl, inr, suc, ◌+◌, ◌-◌, sym, ◌∙◌, arith}
use Rattle.vm_tree_model.specs.Page.{pairs_of}
use Rattle.vm_node.proofs.Bounds.{bound_place}
use Rattle.vm_node.proofs.Telling.{told_so}
use Rattle.vm_bytes_form.specs.Bytes.{bytes}
use Rattle.vm_bytes_form.specs.Strings.{rank}
use Rattle.vm_bytes_node.proofs.KeyFound.{lower_place}
use Rattle.vm_bytes_node.proofs.WindowSteps.{place_before}
use Rattle.vm_bytes_node.proofs.shown.lower_bound_at.Goals.{else-above-gt0-via-then-above-gt0+else-same_key}
use Rattle.vm_bytes_node.proofs.shown.lower_bound_at.Goals.{else-above-gt0-via-else-above-gt0}
use Rattle.vm_bytes_node.proofs.shown.lower_bound_at.Goals as goal

pub returns-then-same_key-clause-told : goal.returns-then-same_key-clause-told
returns-then-same_key-clause-told g c =
    let some = c.if-above-gt0.true in
    let last : c.upper_bound_at-above.result.at ≡ suc (c.upper_bound_at-above.result.at - 1) = omega (arith, some) in
    told_so (omega arith) c.upper_bound_at-above.ensures.told (λ words size read all low high rises.
    let b = read all in
    place_before (pairs_of bytes words) low high (rank c.args.key.now) (c.upper_bound_at-above.result.at - 1) rises
    (sym (bound_place (pairs_of bytes words) low high (rank c.args.key.now + 1) _ rises b.0) ∙ last)
    (b.1.before (c.upper_bound_at-above.result.at - 1) (omega (arith, some)) ∙ c.same_key.ensures.rank.0 c.if-same_key.true))

pub returns-else-above-gt0-clause-told : goal.returns-else-above-gt0-clause-told
returns-else-above-gt0-clause-told g c =
    let other : (c.upper_bound_at-above.result.at ≡ 0) ⊎ (rank c.upper_bound_at-above.result.low ≢ rank c.args.key.now) = elim
    c.else-above-gt0.branch [
      | else-above-gt0-via-then-above-gt0+else-same_key w ↦ inr (w.same_key.ensures.rank.1 w.if-same_key.false)
      | else-above-gt0-via-else-above-gt0 w ↦ inl (let none = w.if-above-gt0.false in omega (arith, none))
    ] in
    told_so (omega arith) c.upper_bound_at-above.ensures.told (λ words size read all low high rises.
    let b = read all in
    lower_place (pairs_of bytes words) (rank c.args.key.now) _ _ _ b.0 b.1 other low high rises)
