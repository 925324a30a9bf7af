use Rattle.std.proofs.Common.{subst}
use Rattle.vm_tree_write.specs.from_vm_tree_rule.Turns.{IsTurnedBack}
use Rattle.vm_tree_write.proofs.Telling.{not-read}
use Rattle.vm_tree_del.proofs.once.not_yet.Goals as goal

pub returns-in-Again : goal.returns-in-Again
returns-in-Again g c = record {
  del = λ key v w a. not-read g.K.Kind.layout key _ v w (subst (λ t. IsTurnedBack g.K.Kind.layout v key t w) c.in-Again.is a);
}

pub returns-in-Need : goal.returns-in-Need
returns-in-Need g c = record { del = λ key v w a. subst (λ t. IsTurnedBack g.K.Kind.layout v key t w) c.in-Need.is a }

pub returns-in-Damaged : goal.returns-in-Damaged
returns-in-Damaged g c = record { del = λ key v w a. subst (λ t. IsTurnedBack g.K.Kind.layout v key t w) c.in-Damaged.is a }
