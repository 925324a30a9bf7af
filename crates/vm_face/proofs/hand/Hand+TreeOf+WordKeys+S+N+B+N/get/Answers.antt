use Rattle.std.proofs.Common.{rules}
use Rattle.vm_map.specs.declared.call.Call.TheVariants.{Get}
use Rattle.vm_step.specs.Prelude.{view}
use Rattle.vm_face.proofs.Calling.{call-keeps, get-tells, hand-called}
use Rattle.vm_face.proofs.hand.Hand+TreeOf+WordKeys+S+N+B+N.get.Goals as goal

pub returns-clause-hand : goal.returns-clause-hand
returns-clause-hand g c =
    let call = c.get_within.ensures in
    hand-called g.row.N (Get c.args.key) c.get_within.result _ _ _ _ _ _ _ c.requires.hand
    (get-tells g.row.N c.args.key c.args.rounds c.get_within.result (view c.args.self.now.pass) (view c.get_within.new.pass)
    call.some call.kind call.none call.err) (search rules) call.held

pub returns-clause-keeps : goal.returns-clause-keeps
returns-clause-keeps g c =
    let call = c.get_within.ensures in
    call-keeps g.row.N (Get c.args.key) c.get_within.result (view c.args.self.now.pass) (view c.get_within.new.pass)
    (get-tells g.row.N c.args.key c.args.rounds c.get_within.result (view c.args.self.now.pass) (view c.get_within.new.pass)
    call.some call.kind call.none call.err)

pub returns-clause-call : goal.returns-clause-call
returns-clause-call g c =
    let call = c.get_within.ensures in
    get-tells g.row.N c.args.key c.args.rounds c.get_within.result (view c.args.self.now.pass) (view c.get_within.new.pass)
    call.some call.kind call.none call.err
