-- A page's pairs are as many as its count says, and as many as it has place for at most.
use Rattle.std.proofs.Common.{arith}
use Rattle.vm_tree_model.specs.Fixed.{capacity}
use Rattle.vm_tree_model.proofs.PairWords.{length-pairs_of}
use Rattle.vm_node.proofs.Sizes.{whole}
use Rattle.vm_node.proofs.pairs.count_of.Goals as goal

pub returns-clause-pairs : goal.returns-clause-pairs
returns-clause-pairs g c =
    omega (
      arith,
      length-pairs_of g.row.N (capacity g.row.N) (whole g.row.N c.requires) c.args.page.now
          c.get.ensures.length,
      c.min.ensures,
      c.get.ensures.word,
      c.most_pairs.ensures,
    )
