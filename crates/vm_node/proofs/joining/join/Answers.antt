-- Each word is read where it is written.
use Rattle.std.proofs.Common.{◌≤◌, ◌+◌, map, sym, subst, ◌∙◌, arith}
use Rattle.std.specs.List.{range_with_len}
use Rattle.vm_tree_model.specs.Fixed.{fixed, capacity}
use Rattle.vm_tree_model.specs.Merges.{IsJoined}
use Rattle.vm_node.specs.Joined.{read_count, word_joined}
use Rattle.vm_node.proofs.Sizes.{eight_some}
use Rattle.vm_node.proofs.Making.{below_more, below_all}
use Rattle.vm_node.proofs.JoinedPages.{join_reads, joined_is, joined_leaf}
use Rattle.vm_node.proofs.joining.join.Goals as goal

pub loop-i-preserved : goal.loop-i-preserved
loop-i-preserved g c =
    below_more c.loop-i.invariant (omega arith)
    (c.word_of_both-word.ensures ∙ join_reads c.loop-i.left c.args.left.now c.args.right.now c.count_of-first.result
    c.count_of-second.result c.loop-i.i (c.loop-i.invariant.left c.loop-i.i (omega arith)))
    c.set.ensures.words c.set.ensures.length

pub returns-clause-words : goal.returns-clause-words
returns-clause-words g c =
    below_all (eight_some g.row.N c.requires.sized) c.loop-i.invariant (omega arith)
    ∙ (λ j. map (word_joined c.args.left.now c.args.right.now (c.count_of-first.ensures.count j)
    (c.count_of-second.ensures.count j)) (range_with_len 0 g.row.N))

pub returns-clause-joined : goal.returns-clause-joined
returns-clause-joined g c =
    let few : read_count g.row.N c.args.left.now + read_count g.row.N c.args.right.now ≤ capacity g.row.N
    = omega (
      arith,
      c.requires.place,
      c.count_of-first.ensures.count,
      c.count_of-first.ensures.pairs,
      c.count_of-second.ensures.count,
      c.count_of-second.ensures.pairs,
    ) in
    subst (λ w. IsJoined (fixed g.row.N) c.args.left.now c.args.right.now w) (sym (returns-clause-words g c))
    (joined_is g.row.N c.requires.sized c.args.left.now c.args.right.now c.count_of-first.ensures.words c.count_of-second.ensures.words few)

pub returns-clause-leaf : goal.returns-clause-leaf
returns-clause-leaf g c leaf next meets from upto = joined_leaf (fixed g.row.N) _ _ _ (returns-clause-joined g c) leaf next meets from upto
