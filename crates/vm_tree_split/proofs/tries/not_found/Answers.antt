use Rattle.std.proofs.Common.{subst}
use Rattle.vm_tree_read.specs.from_vm_tree_rule.Turns.{IsTurnedBack}
use Rattle.vm_tree_split.proofs.tries.not_found.Goals as goal
use Rattle.vm_tree_split.proofs.Trying.{turn-again, turn-damaged, turn-need}

pub returns-in-Again : goal.returns-in-Again
returns-in-Again g c = λ key v w a. turn-again g.K.Kind.plain g.K.Kind.layout g.K.Kind.spare key _ v w
    (subst (λ t. IsTurnedBack g.K.Kind.layout v key t w) c.in-Again.is a)

pub returns-in-Need : goal.returns-in-Need
returns-in-Need g c = λ key v w a. turn-need g.K.Kind.plain g.K.Kind.layout g.K.Kind.spare key _ v w
    (subst (λ t. IsTurnedBack g.K.Kind.layout v key t w) c.in-Need.is a)

pub returns-in-Damaged : goal.returns-in-Damaged
returns-in-Damaged g c = λ key v w a. turn-damaged g.K.Kind.plain g.K.Kind.layout g.K.Kind.spare key _ v w
    (subst (λ t. IsTurnedBack g.K.Kind.layout v key t w) c.in-Damaged.is a)
