-- Each pair takes one place.
use Rattle.std.proofs.Common.{◌*◌, ◌∙◌, sym, true≢false, arith}
use Rattle.std.proofs.lemmas.Bool.{leb-true, le-leb}
use Rattle.vm_kind.proofs.WordJoins.{size_is_count}
use Rattle.vm_kind.proofs.word_keys.WordKeysMerges.is_sparse.Goals as goal

pub returns : goal.returns
returns g c =
    let count = size_is_count g.row.N c.args.page.now in (
      λ is. let le = leb-true (4 * c.count_of.result) c.most_pairs.result is in
          omega (arith, le, count, c.count_of.ensures.pairs, c.most_pairs.ensures),
      λ isnt le. true≢false (sym
          (le-leb (4 * c.count_of.result) c.most_pairs.result
          (omega (arith, le, count, c.count_of.ensures.pairs, c.most_pairs.ensures))) ∙ isnt),
    )
