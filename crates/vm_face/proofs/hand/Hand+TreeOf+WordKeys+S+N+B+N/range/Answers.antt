use Rattle.std.proofs.Common.{rules}
use Rattle.vm_map.specs.declared.call.Call.TheVariants.{Range}
use Rattle.vm_step.specs.Prelude.{view}
use Rattle.vm_face.proofs.Calling.{call-keeps, range-tells, hand-called}
use Rattle.vm_face.proofs.hand.Hand+TreeOf+WordKeys+S+N+B+N.range.Goals as goal

pub returns-clause-hand : goal.returns-clause-hand
returns-clause-hand g c =
    let call = c.range_within.ensures in
    hand-called g.row.N (Range c.args.low c.args.bound) c.range_within.result _ _ _ _ _ _ _ c.requires.hand
    (range-tells g.row.N c.args.low c.args.bound c.args.rounds c.range_within.result (view c.args.self.now.pass)
    (view c.range_within.new.pass) _ _ call.some call.kind call.none call.err) (search rules) call.held

pub returns-clause-keeps : goal.returns-clause-keeps
returns-clause-keeps g c =
    let call = c.range_within.ensures in
    call-keeps g.row.N (Range c.args.low c.args.bound) c.range_within.result (view c.args.self.now.pass) (view c.range_within.new.pass)
    (range-tells g.row.N c.args.low c.args.bound c.args.rounds c.range_within.result (view c.args.self.now.pass)
    (view c.range_within.new.pass) _ _ call.some call.kind call.none call.err)

pub returns-clause-call : goal.returns-clause-call
returns-clause-call g c =
    let call = c.range_within.ensures in
    range-tells g.row.N c.args.low c.args.bound c.args.rounds c.range_within.result (view c.args.self.now.pass)
    (view c.range_within.new.pass) _ _ call.some call.kind call.none call.err
