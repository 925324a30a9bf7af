use Rattle.std.proofs.lemmas.Bool.{false≢true}
use Rattle.vm_tree_merge.specs.from_vm_step.Prelude.{view}
use Rattle.vm_tree_laws.specs.Tied.{Tied}
use Rattle.vm_tree_merge.proofs.from_vm_tree_rule.{Readings.valid-reads, Surely.known-at, Surely.resident-same}
use Rattle.vm_tree_merge.proofs.from_vm_tree_rule.Whole.{tree-size}
use Rattle.vm_tree_write.proofs.Telling.{not-valid, tight}
use Rattle.vm_tree_write.proofs.write.tight.Goals as goal

pub returns-in-Ok-clause-put : goal.returns-in-Ok-clause-put
returns-in-Ok-clause-put g c key value loaded v o has leaf full = tight g.K.Kind.layout g.K.Kind.is_layout
    g.K.Kind.spare g.K.Kind.spare_is _ _ _ key loaded _ _ _ o has leaf full
    (tree-size _ _ _ c.validate_silently.ensures.goes.ready.table.is_shape.size c.args.words.now.sized.0
    c.args.words.now.size.takes) c.in-Ok.ensures.ok

pub returns-in-Err-clause-put : goal.returns-in-Err-clause-put
returns-in-Err-clause-put g c key value loaded v o has leaf full = not-valid g.K.Kind.layout _ _ _ key _ _ _ _ o c.in-Err.ensures.err

-- ---- a pass that knows its pages to be resident

pub returns-in-Err-clause-sure : goal.returns-in-Err-clause-sure
returns-in-Err-clause-sure g c known =
    absurd (false≢true (c.in-Err.ensures.sure known.resident.alone (known-at _ _ (view c.args.pass.now) known)))

pub returns-in-Ok-clause-known : goal.returns-in-Ok-clause-known
returns-in-Ok-clause-known g c known =
    let k = c.in-Ok.ensures.ok in
    resident-same (view c.args.pass.now) (view c.validate_silently.new.pass)
    (valid-reads (Tied g.K.Kind.layout) _ _ _ (view c.args.pass.now) (view c.validate_silently.new.pass) k).0
    k.table known.resident

pub returns-in-Err-clause-known : goal.returns-in-Err-clause-known
returns-in-Err-clause-known g c known =
    absurd (false≢true (c.in-Err.ensures.sure known.resident.alone (known-at _ _ (view c.args.pass.now) known)))
