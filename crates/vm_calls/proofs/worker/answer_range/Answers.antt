use Rattle.vm_step.specs.Prelude.{view}
use Rattle.vm_calls.proofs.{Answering.range-tells, Memory.last-taken}
use Rattle.vm_calls.proofs.worker.answer_range.Goals as goal

pub returns-clause-call : goal.returns-clause-call
returns-clause-call g c =
    range-tells g.row.N c.args.low c.args.bound c.range.result (view c.args.pass.now) (view c.range.new.pass) c.range.ensures.ok
    c.range.ensures.kind c.range.ensures.err

pub returns-clause-empty : goal.returns-clause-empty
returns-clause-empty g c = (last-taken g.row.N _ _ _ c.in-Some.ensures.items c.requires.empty).0

pub returns-clause-ready : goal.returns-clause-ready
returns-clause-ready g c = c.range.ensures.goes.ready

pub returns-clause-held : goal.returns-clause-held
returns-clause-held g c = c.range.ensures.held

pub returns-clause-lost : goal.returns-clause-lost
returns-clause-lost g c = c.range.ensures.lost
