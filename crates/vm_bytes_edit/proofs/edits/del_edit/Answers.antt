-- The pair before the place goes.
use Rattle.vm_bytes_edit.proofs.PairEdits.{del_form, del_leaf, del_takes, found_was}
use Rattle.vm_bytes_edit.proofs.edits.del_edit.Goals as goal

pub returns-clause-was : goal.returns-clause-was
returns-clause-was c = found_was c.args.page.now c.args.key.now c.key_place-at.ensures.string _ _ c.key_place-at.ensures.placed _
    c.in_ok-old.was

pub returns-clause-form : goal.returns-clause-form
returns-clause-form c = del_form c.args.page.now c.args.key.now c.key_place-at.ensures.string _ _ c.key_place-at.ensures.placed _
    c.in_ok-old.was
    c.without_pair.result c.without_pair.ensures

pub returns-clause-node : goal.returns-clause-node
returns-clause-node c = del_takes c.args.page.now c.without_pair.result c.args.key.now 0 c.key_place-at.ensures.string
    (returns-clause-form c)

pub returns-clause-leaf : goal.returns-clause-leaf
returns-clause-leaf c = del_leaf c.args.page.now c.without_pair.result c.args.key.now 0 c.key_place-at.ensures.string
    (returns-clause-form c)
