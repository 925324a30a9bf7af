use Rattle.std.proofs.Common.{rules}
use Rattle.vm_map.specs.declared.call.Call.TheVariants.{Window}
use Rattle.vm_step.specs.Prelude.{view}
use Rattle.vm_face.proofs.Calling.{call-keeps, window-tells, hand-called}
use Rattle.vm_face.proofs.hand.Hand+TreeOf+WordKeys+S+N+B+N.window.Goals as goal

pub returns-clause-hand : goal.returns-clause-hand
returns-clause-hand g c =
    let call = c.window_within.ensures in
    hand-called g.row.N (Window c.args.start c.args.most) c.window_within.result _ _ _ _ _ _ _ c.requires.hand
    (window-tells g.row.N c.args.start c.args.most c.args.rounds c.window_within.result (view c.args.self.now.pass)
    (view c.window_within.new.pass) call.some call.kind call.none call.err) (search rules) call.held

pub returns-clause-keeps : goal.returns-clause-keeps
returns-clause-keeps g c =
    let call = c.window_within.ensures in
    call-keeps g.row.N (Window c.args.start c.args.most) c.window_within.result (view c.args.self.now.pass) (view c.window_within.new.pass)
    (window-tells g.row.N c.args.start c.args.most c.args.rounds c.window_within.result (view c.args.self.now.pass)
    (view c.window_within.new.pass) call.some call.kind call.none call.err)

pub returns-clause-call : goal.returns-clause-call
returns-clause-call g c =
    let call = c.window_within.ensures in
    window-tells g.row.N c.args.start c.args.most c.args.rounds c.window_within.result (view c.args.self.now.pass)
    (view c.window_within.new.pass) call.some call.kind call.none call.err
