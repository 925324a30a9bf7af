use Rattle.std.proofs.Common.{◌≡◌, ◌-◌, ◌<◌, ℕ, List, [], ◌∷◌, length, replicate, slice_index, slice_index_or, ap, ◌∙◌, arith}
use Rattle.std.proofs.lemmas.List.{get_or_read}
use Rattle.vm_build.proofs.Assembled.{meta_made}
use Rattle.vm_build.proofs.building.meta_page.Goals as goal

pub returns : goal.returns
returns g c =
    let nodes = c.args.nodes.now in
    let last : length nodes - 1 < length nodes = omega (arith, c.requires.some) in
    let level : c.get.result ≡ slice_index (slice_index_or nodes (length nodes - 1) []) 5
    = c.get.ensures.word ∙ ap (λ (w : List ℕ). slice_index w 5)
    (get_or_read nodes (length nodes - 1) c.index-nodes-nodes.result last c.index-nodes-nodes.is []) in
    rw (c.set-3.ensures.words, c.set-2.ensures.words, c.set.ensures.words, c.zero-meta.ensures)
    (meta_made g.row.N c.requires.sized c.magic_for.result (length nodes) c.get.result
    ∙ (λ i. c.magic_for.ensures i ∷ length nodes ∷ level i ∷ replicate (g.row.N - 3) 0))
