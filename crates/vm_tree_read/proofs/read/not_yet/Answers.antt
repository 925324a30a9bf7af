use Rattle.std.proofs.Common.{subst}
use Rattle.vm_tree_rule.specs.Turns.{IsTurnedBack}
use Rattle.vm_tree_read.proofs.read.not_yet.Goals as goal

pub returns-in-Again : goal.returns-in-Again
returns-in-Again g c = record {
  tried = λ call key v w a. subst (λ t. IsTurnedBack g.K.Kind.layout v key t w) c.in-Again.is a;
  kind = λ call. tt;
  unanswered = λ done. done;
}

pub returns-in-Need : goal.returns-in-Need
returns-in-Need g c = record {
  tried = λ call key v w a. subst (λ t. IsTurnedBack g.K.Kind.layout v key t w) c.in-Need.is a;
  kind = λ call. tt;
  unanswered = λ done. done;
}

pub returns-in-Damaged : goal.returns-in-Damaged
returns-in-Damaged g c = record {
  tried = λ call key v w a. subst (λ t. IsTurnedBack g.K.Kind.layout v key t w) c.in-Damaged.is a;
  kind = λ call. tt;
  unanswered = λ done. done;
}
