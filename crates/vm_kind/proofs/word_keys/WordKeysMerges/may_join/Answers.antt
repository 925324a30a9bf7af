-- Each pair takes one place.
use Rattle.std.proofs.Common.{◌≡◌, ℕ, ◌+◌, ◌*◌, ◌/◌, ◌∙◌, ap, sym, true≢false, arith}
use Rattle.std.proofs.lemmas.Bool.{leb-true, le-leb}
use Rattle.vm_tree_model.specs.Fixed.{capacity}
use Rattle.vm_kind.proofs.WordJoins.{both_count}
use Rattle.vm_kind.proofs.word_keys.WordKeysMerges.may_join.Goals as goal

pub returns : goal.returns
returns g c =
    let count = both_count g.row.N c.args.left.now c.args.right.now in
    let most : c.most_pairs.result * 5 / 7 ≡ capacity g.row.N * 5 / 7 = ap (λ (m : ℕ). m * 5 / 7) c.most_pairs.ensures in (
      λ is. let le = leb-true (c.count_of.result + c.count_of-2.result) (c.most_pairs.result * 5 / 7) is in
          omega (arith, le, most, count, c.count_of.ensures.pairs, c.count_of-2.ensures.pairs),
      λ isnt le. true≢false (sym (le-leb (c.count_of.result + c.count_of-2.result) (c.most_pairs.result * 5 / 7)
          (omega (arith, le, most, count, c.count_of.ensures.pairs, c.count_of-2.ensures.pairs))) ∙ isnt),
    )
