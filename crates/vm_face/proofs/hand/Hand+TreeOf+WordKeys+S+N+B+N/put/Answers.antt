use Rattle.std.proofs.Common.{rules}
use Rattle.vm_map.specs.declared.call.Call.TheVariants.{Put}
use Rattle.vm_step.specs.Prelude.{view}
use Rattle.vm_face.proofs.Calling.{call-keeps, put-tells, hand-called}
use Rattle.vm_face.proofs.hand.Hand+TreeOf+WordKeys+S+N+B+N.put.Goals as goal

pub returns-clause-hand : goal.returns-clause-hand
returns-clause-hand g c =
    let call = c.put_within.ensures in
    hand-called g.row.N (Put c.args.key c.args.value) c.put_within.result _ _ _ _ _ _ _ c.requires.hand
    (put-tells g.row.N c.args.key c.args.value c.args.rounds c.put_within.result (view c.args.self.now.pass) (view c.put_within.new.pass)
    call.some call.kind call.none call.err) (search rules) call.held

pub returns-clause-keeps : goal.returns-clause-keeps
returns-clause-keeps g c =
    let call = c.put_within.ensures in
    call-keeps g.row.N (Put c.args.key c.args.value) c.put_within.result (view c.args.self.now.pass) (view c.put_within.new.pass)
    (put-tells g.row.N c.args.key c.args.value c.args.rounds c.put_within.result (view c.args.self.now.pass) (view c.put_within.new.pass)
    call.some call.kind call.none call.err)

pub returns-clause-call : goal.returns-clause-call
returns-clause-call g c =
    let call = c.put_within.ensures in
    put-tells g.row.N c.args.key c.args.value c.args.rounds c.put_within.result (view c.args.self.now.pass) (view c.put_within.new.pass)
    call.some call.kind call.none call.err
