use Rattle.std.proofs.Common.{inl, inr, subst}
use Rattle.vm_tree_merge.specs.from_vm_tree_rule.Turns.{IsTurnedBack}
use Rattle.vm_tree_merge.proofs.from_vm_tree_split.Backing.{shown-wider}
use Rattle.vm_tree_merge.specs.Beside.{IsTurnedBeside}
use Rattle.vm_tree_write.proofs.Telling.{not-read, to-try}
use Rattle.vm_tree_write.proofs.write.not_yet.Goals as goal

pub returns-in-Again : goal.returns-in-Again
returns-in-Again g c = record {
  put = λ key value v w a. not-read g.K.Kind.layout key _ v w (subst (λ t. IsTurnedBack g.K.Kind.layout v key t w) c.in-Again.is a);
  del = λ key v w a. to-try g.K.Kind.layout key _ v w
      (not-read g.K.Kind.layout key _ v w (subst (λ t. IsTurnedBack g.K.Kind.layout v key t w) c.in-Again.is a));
  beside = λ key v w a. let k = subst (λ t. IsTurnedBeside g.K.Kind.layout v key t w) c.in-Again.is a in
      inl (k.0, shown-wider _ v w k.1);
  swap = λ key want value v w a. not-read g.K.Kind.layout key _ v w (subst (λ t. IsTurnedBack g.K.Kind.layout v key t w) c.in-Again.is a);
}

pub returns-in-Need : goal.returns-in-Need
returns-in-Need g c = record {
  put = λ key value v w a. subst (λ t. IsTurnedBack g.K.Kind.layout v key t w) c.in-Need.is a;
  del = λ key v w a. let k = subst (λ t. IsTurnedBack g.K.Kind.layout v key t w) c.in-Need.is a in (k.0, inl k.1);
  beside = λ key v w a. let k = subst (λ t. IsTurnedBeside g.K.Kind.layout v key t w) c.in-Need.is a in (k.0, inr k.1);
  swap = λ key want value v w a. subst (λ t. IsTurnedBack g.K.Kind.layout v key t w) c.in-Need.is a;
}

pub returns-in-Damaged : goal.returns-in-Damaged
returns-in-Damaged g c = record {
  put = λ key value v w a. subst (λ t. IsTurnedBack g.K.Kind.layout v key t w) c.in-Damaged.is a;
  del = λ key v w a. let k = subst (λ t. IsTurnedBack g.K.Kind.layout v key t w) c.in-Damaged.is a in (k.0, inl k.1);
  beside = λ key v w a. let k = subst (λ t. IsTurnedBeside g.K.Kind.layout v key t w) c.in-Damaged.is a in (k.0, inr k.1);
  swap = λ key want value v w a. subst (λ t. IsTurnedBack g.K.Kind.layout v key t w) c.in-Damaged.is a;
}
