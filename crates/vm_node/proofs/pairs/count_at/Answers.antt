-- The count is the page's second word, or the capacity where that is more.
use Rattle.std.proofs.Common.{arith}
use Rattle.vm_tree_model.specs.Fixed.{capacity}
use Rattle.vm_tree_model.proofs.PairWords.{length-pairs_of}
use Rattle.vm_node.proofs.Sizes.{whole}
use Rattle.vm_node.proofs.Telling.{told_word, told_so}
use Rattle.vm_node.proofs.pairs.count_at.Goals as goal

pub returns-clause-told : goal.returns-clause-told
returns-clause-told g c = told_so (omega arith) (told_word c.word.ensures.loads)
    (λ words size read. omega (
      arith,
      length-pairs_of c.args.words (capacity c.args.words) (whole c.args.words c.requires.sized) words size,
      read,
      c.min.ensures,
      c.most_pairs.ensures,
    ))
