-- A key is the first of the two words of its pair.
use Rattle.std.proofs.Common.{sym, ◌∙◌}
use Rattle.vm_node.proofs.ReadPairs.{key_is}
use Rattle.vm_node.proofs.pairs.key_at.Goals as goal

pub returns-clause-pair : goal.returns-clause-pair
returns-clause-pair g c =
    c.get.ensures.word ∙ sym
    (key_is g.row.N c.requires.sized c.args.page.now c.get.ensures.length c.args.i c.requires.there)
