use Rattle.vm_step.specs.Prelude.{view}
use Rattle.vm_calls.proofs.Answering.{del-tells}
use Rattle.vm_calls.proofs.worker.answer_del.Goals as goal

pub returns-clause-call : goal.returns-clause-call
returns-clause-call g c =
    del-tells g.row.N c.args.key c.del.result (view c.args.pass.now) (view c.del.new.pass) c.del.ensures.ok c.del.ensures.kind
    c.del.ensures.err

pub returns-clause-ready : goal.returns-clause-ready
returns-clause-ready g c = c.del.ensures.goes.ready

pub returns-clause-held : goal.returns-clause-held
returns-clause-held g c = c.del.ensures.held

pub returns-clause-lost : goal.returns-clause-lost
returns-clause-lost g c = c.del.ensures.lost
