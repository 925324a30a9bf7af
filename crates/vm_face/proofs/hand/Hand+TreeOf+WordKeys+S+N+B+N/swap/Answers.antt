use Rattle.std.proofs.Common.{rules}
use Rattle.vm_map.specs.declared.call.Call.TheVariants.{Swap}
use Rattle.vm_step.specs.Prelude.{view}
use Rattle.vm_face.proofs.Calling.{call-keeps, swap-tells, hand-called}
use Rattle.vm_face.proofs.hand.Hand+TreeOf+WordKeys+S+N+B+N.swap.Goals as goal

pub returns-clause-hand : goal.returns-clause-hand
returns-clause-hand g c =
    let call = c.swap_within.ensures in
    hand-called g.row.N (Swap c.args.key c.args.want c.args.value) c.swap_within.result _ _ _ _ _ _ _ c.requires.hand
    (swap-tells g.row.N c.args.key c.args.want c.args.value c.args.rounds c.swap_within.result
    (view c.args.self.now.pass) (view c.swap_within.new.pass) call.some call.kind call.none call.err) (search rules) call.held

pub returns-clause-keeps : goal.returns-clause-keeps
returns-clause-keeps g c =
    let call = c.swap_within.ensures in
    call-keeps g.row.N (Swap c.args.key c.args.want c.args.value) c.swap_within.result (view c.args.self.now.pass)
    (view c.swap_within.new.pass)
    (swap-tells g.row.N c.args.key c.args.want c.args.value c.args.rounds c.swap_within.result
    (view c.args.self.now.pass) (view c.swap_within.new.pass) call.some call.kind call.none call.err)

pub returns-clause-call : goal.returns-clause-call
returns-clause-call g c =
    let call = c.swap_within.ensures in
    swap-tells g.row.N c.args.key c.args.want c.args.value c.args.rounds c.swap_within.result
    (view c.args.self.now.pass) (view c.swap_within.new.pass) call.some call.kind call.none call.err
