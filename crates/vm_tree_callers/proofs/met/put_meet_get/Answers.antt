use Rattle.std.proofs.Common.{◌∙◌, ap, sym}
use Rattle.vm_step.specs.Prelude.{Origin, view}
use Rattle.vm_tree_callers.proofs.Answered.{answers-behind}
use Rattle.vm_tree_callers.proofs.met.put_meet_get.Goals as goal

pub returns : goal.returns
returns g c =
    let met = c.meet.ensures.have in
    let got = c.in-Done-try_get.ensures.tried in
    record {
      answers = answers-behind g.K.Kind.plain g.K.Kind.layout (g.K.Kind.rank c.args.key.now) c.args.value
          c.in-Done._was c.in-Done-try_get.reply (view c.try_get.new.pass) (view c.args.first.now)
          (view c.try_put.new.pass) (view c.meet.new.other) (view c.try_get.new.pass) _ c.in-Done.ensures.tried.0
          (met.same.0 ∙ met.heard.0.1) (λ tells. ap (λ (o : Origin). o.tells) (sym got.reads.start) ∙ tells) got;
    }
