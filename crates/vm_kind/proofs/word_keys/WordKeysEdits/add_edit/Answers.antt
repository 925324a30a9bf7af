-- No place is left where a further pair exceeds the capacity.
use Rattle.std.proofs.lemmas.Result.{IfErr-weaker}
use Rattle.vm_kind.specs.WordRoom.{spare_none}
use Rattle.vm_kind.proofs.word_keys.WordKeysEdits.add_edit.Goals as goal

pub returns-clause-refused : goal.returns-clause-refused
returns-clause-refused g c =
    IfErr-weaker c.add_edit.result _ _ (λ r refused. spare_none g.row.N c.args.page.now refused.count)
    c.add_edit.ensures.refused

pub returns-clause-node : goal.returns-clause-node
returns-clause-node g c inner = c.add_edit.ensures.node _ _ inner.node.rises
