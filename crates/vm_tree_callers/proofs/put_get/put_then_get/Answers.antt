use Rattle.vm_step.specs.Prelude.{view}
use Rattle.vm_tree_callers.proofs.Answered.{answers-put}
use Rattle.vm_tree_callers.proofs.put_get.put_then_get.Goals as goal

pub returns-clause-answers : goal.returns-clause-answers
returns-clause-answers g c =
    answers-put g.K.Kind.plain g.K.Kind.layout (g.K.Kind.rank c.args.key.now) c.args.value c.in-Done._was
    c.in-Done-try_get.reply (view c.args.pass.now) (view c.try_put.new.pass) (view c.try_get.new.pass)
    c.in-Done.ensures.tried.0 c.in-Done-try_get.ensures.tried
