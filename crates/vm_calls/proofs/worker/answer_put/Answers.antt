use Rattle.vm_step.specs.Prelude.{view}
use Rattle.vm_calls.proofs.Answering.{put-tells}
use Rattle.vm_calls.proofs.worker.answer_put.Goals as goal

pub returns-clause-call : goal.returns-clause-call
returns-clause-call g c =
    put-tells g.row.N c.args.key c.args.value c.put.result (view c.args.pass.now) (view c.put.new.pass) c.put.ensures.ok c.put.ensures.kind
    c.put.ensures.err

pub returns-clause-ready : goal.returns-clause-ready
returns-clause-ready g c = c.put.ensures.goes.ready

pub returns-clause-held : goal.returns-clause-held
returns-clause-held g c = c.put.ensures.held

pub returns-clause-lost : goal.returns-clause-lost
returns-clause-lost g c = c.put.ensures.lost
