use Rattle.std.proofs.Common.{rules}
use Rattle.vm_map.specs.declared.call.Call.TheVariants.{Del}
use Rattle.vm_step.specs.Prelude.{view}
use Rattle.vm_face.proofs.Calling.{call-keeps, del-tells, hand-called}
use Rattle.vm_face.proofs.hand.Hand+TreeOf+WordKeys+S+N+B+N.del.Goals as goal

pub returns-clause-hand : goal.returns-clause-hand
returns-clause-hand g c =
    let call = c.del_within.ensures in
    hand-called g.row.N (Del c.args.key) c.del_within.result _ _ _ _ _ _ _ c.requires.hand
    (del-tells g.row.N c.args.key c.args.rounds c.del_within.result (view c.args.self.now.pass) (view c.del_within.new.pass)
    call.some call.kind call.none call.err) (search rules) call.held

pub returns-clause-keeps : goal.returns-clause-keeps
returns-clause-keeps g c =
    let call = c.del_within.ensures in
    call-keeps g.row.N (Del c.args.key) c.del_within.result (view c.args.self.now.pass) (view c.del_within.new.pass)
    (del-tells g.row.N c.args.key c.args.rounds c.del_within.result (view c.args.self.now.pass) (view c.del_within.new.pass)
    call.some call.kind call.none call.err)

pub returns-clause-call : goal.returns-clause-call
returns-clause-call g c =
    let call = c.del_within.ensures in
    del-tells g.row.N c.args.key c.args.rounds c.del_within.result (view c.args.self.now.pass) (view c.del_within.new.pass)
    call.some call.kind call.none call.err
