-- The child is that of the pair before the place where the keys begin to be above.
use Rattle.std.proofs.Common.{◌≡◌, suc, ◌-◌, ◌<◌, length, arith}
use Rattle.vm_bytes_form.specs.Forms.{node_in}
use Rattle.vm_bytes_form.specs.Strings.{rank}
use Rattle.vm_node.proofs.Telling.{told_then, told_so}
use Rattle.vm_bytes_node.proofs.KeyFound.{child_before, no_child}
use Rattle.vm_bytes_node.proofs.KeySearch.{length-pairs}
use Rattle.vm_bytes_node.proofs.search.child_at.Goals as goal

pub returns-then-above-eq0-clause-told : goal.returns-then-above-eq0-clause-told
returns-then-above-eq0-clause-told g c =
    told_so (omega arith) (told_then g.met.P.Place.join c.count_at-count.ensures.told c.upper_bound_at-above.ensures.told)
    (λ words size read. no_child words (rank c.args.key.now) _ (read.1 read.0).0 c.if-above-eq0.true)

pub returns-clause-told : goal.returns-clause-told
returns-clause-told g c =
    let some = c.if-above-eq0.false in
    let last : suc (c.upper_bound_at-above.result.at - 1) ≡ c.upper_bound_at-above.result.at = omega (arith, some) in
    told_so (omega arith) (told_then g.met.P.Place.join
    (told_then g.met.P.Place.join c.count_at-count.ensures.told c.upper_bound_at-above.ensures.told) c.value_at-page.ensures.told)
    (λ words size read.
    let b = read.0.1 read.0.0 in
    let inside = b.0.inside in
    let there : c.upper_bound_at-above.result.at - 1 < length (node_in words).entries = omega (arith, last, inside, length-pairs words) in
    child_before words (rank c.args.key.now) _ b.0 _ _ b.1 (c.upper_bound_at-above.result.at - 1) _ last (read.1 there))
