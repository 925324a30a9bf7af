use Rattle.vm_step.specs.Prelude.{view}
use Rattle.vm_calls.proofs.Answering.{swap-tells}
use Rattle.vm_calls.proofs.worker.answer_swap.Goals as goal

pub returns-clause-call : goal.returns-clause-call
returns-clause-call g c =
    swap-tells g.row.N c.args.key c.args.want c.args.value c.swap.result (view c.args.pass.now) (view c.swap.new.pass) c.swap.ensures.ok c.swap.ensures.kind
    c.swap.ensures.err

pub returns-clause-ready : goal.returns-clause-ready
returns-clause-ready g c = c.swap.ensures.goes.ready

pub returns-clause-held : goal.returns-clause-held
returns-clause-held g c = c.swap.ensures.held

pub returns-clause-lost : goal.returns-clause-lost
returns-clause-lost g c = c.swap.ensures.lost
