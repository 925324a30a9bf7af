use Rattle.vm_step.specs.Prelude.{view}
use Rattle.vm_calls.proofs.Answering.{get-tells}
use Rattle.vm_calls.proofs.worker.answer_get.Goals as goal

pub returns-clause-call : goal.returns-clause-call
returns-clause-call g c =
    get-tells g.row.N c.args.key c.get.result (view c.args.pass.now) (view c.get.new.pass) c.get.ensures.ok c.get.ensures.kind
    c.get.ensures.err

pub returns-clause-ready : goal.returns-clause-ready
returns-clause-ready g c = c.get.ensures.goes.ready

pub returns-clause-held : goal.returns-clause-held
returns-clause-held g c = c.get.ensures.held

pub returns-clause-lost : goal.returns-clause-lost
returns-clause-lost g c = c.get.ensures.lost
