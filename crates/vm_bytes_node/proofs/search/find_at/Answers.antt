-- The value found is that of the pair before the place where the keys begin to be above.
use Rattle.std.proofs.Common.{◌≡◌, ◌≢◌, ◌⊎◌, inl, inr, suc, ◌-◌, ◌<◌, length, sym, ◌∙◌, arith}
use Rattle.vm_tree_model.specs.Page.{pairs_of}
use Rattle.vm_bytes_form.specs.Bytes.{bytes}
use Rattle.vm_bytes_form.specs.Forms.{node_in}
use Rattle.vm_bytes_form.specs.Strings.{rank}
use Rattle.vm_node.proofs.Telling.{told_then, told_so}
use Rattle.vm_bytes_node.proofs.KeyFound.{found_before, none_before, values-at}
use Rattle.vm_bytes_node.proofs.KeySearch.{length-pairs}
use Rattle.vm_bytes_node.proofs.search.find_at.Goals.{then-above-eq0-via-then-above-eq0}
use Rattle.vm_bytes_node.proofs.search.find_at.Goals.{then-above-eq0-via-else-above-eq0+then-not-same_key}
use Rattle.vm_bytes_node.proofs.search.find_at.Goals as goal

pub returns-then-above-eq0-clause-told : goal.returns-then-above-eq0-clause-told
returns-then-above-eq0-clause-told g c =
    let other : (c.upper_bound_at-above.result.at ≡ 0) ⊎ (rank c.upper_bound_at-above.result.low ≢ rank c.args.key.now) = elim
    c.then-above-eq0.branch [
      | then-above-eq0-via-then-above-eq0 w ↦ inl w.if-above-eq0.true
      | then-above-eq0-via-else-above-eq0+then-not-same_key w ↦ inr (w.same_key.ensures.rank.1 w.if-not-same_key.true)
    ] in
    told_so (omega arith) (told_then g.met.P.Place.join c.count_at-count.ensures.told c.upper_bound_at-above.ensures.told)
    (λ words size read. let b = read.1 read.0 in none_before (pairs_of bytes words) (rank c.args.key.now) _ _ _ b.0 b.1 other)

pub returns-clause-told : goal.returns-clause-told
returns-clause-told g c =
    let some = c.if-above-eq0.false in
    let last : suc (c.upper_bound_at-above.result.at - 1) ≡ c.upper_bound_at-above.result.at = omega (arith, some) in
    told_so (omega arith) (told_then g.met.P.Place.join
    (told_then g.met.P.Place.join c.count_at-count.ensures.told c.upper_bound_at-above.ensures.told) c.value_at.ensures.told)
    (λ words size read.
    let b = read.0.1 read.0.0 in
    let inside = b.0.inside in
    let there : c.upper_bound_at-above.result.at - 1 < length (node_in words).entries = omega (arith, last, inside, length-pairs words) in
    found_before (pairs_of bytes words) (rank c.args.key.now) _ _ _ b.0 b.1 (c.upper_bound_at-above.result.at - 1) _ last
    (c.same_key.ensures.rank.0 c.if-not-same_key.false) (read.1 there ∙ sym (values-at _ (node_in words).entries there)))
