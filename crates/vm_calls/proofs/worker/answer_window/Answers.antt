use Rattle.vm_step.specs.Prelude.{view}
use Rattle.vm_calls.proofs.Answering.{window-tells}
use Rattle.vm_calls.proofs.worker.answer_window.Goals as goal

pub returns-clause-call : goal.returns-clause-call
returns-clause-call g c =
    window-tells g.row.N c.args.start c.args.most c.window.result (view c.args.pass.now) (view c.window.new.pass) c.window.ensures.ok c.window.ensures.kind
    c.window.ensures.err

pub returns-clause-ready : goal.returns-clause-ready
returns-clause-ready g c = c.window.ensures.goes.ready

pub returns-clause-held : goal.returns-clause-held
returns-clause-held g c = c.window.ensures.held

pub returns-clause-lost : goal.returns-clause-lost
returns-clause-lost g c = c.window.ensures.lost
