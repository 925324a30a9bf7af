use Rattle.std.proofs.Common.{List, subst, sym, ℕ}
use Rattle.vm_tree_write.specs.from_vm_step.Prelude.{UnlockedExpected}
use Rattle.vm_tree_write.specs.from_vm_guard.Denied.{AgainOrWorn, IsDenied, KeptWord}
use Rattle.vm_tree_write.specs.from_vm_tree_split.Prepares.{SaysWorn}
use Rattle.vm_tree_write.specs.Writes.{HasKeyIn}
use Rattle.vm_tree_write.proofs.Telling.{not-locked, worn-leaf}
use Rattle.vm_tree_del.proofs.once.unwritten.Goals as goal

pub returns-in-Again : goal.returns-in-Again
returns-in-Again g c = record {
  del = λ key p word frame page v x w o a read leaf has d. not-locked g.K.Kind.layout p word frame key _ v x w o
      (subst (λ t. IsDenied AgainOrWorn (KeptWord word) UnlockedExpected p t x w) c.in-Again.is d);
  settled = λ worn. subst SaysWorn c.in-Again.is worn;
}

pub returns-in-Worn : goal.returns-in-Worn
returns-in-Worn g c = record {
  del = λ key p word frame page v x w o a read leaf has d. let k = worn-leaf g.K.Kind.layout p _ word frame key page v
      x w o a read leaf (subst (λ t. IsDenied AgainOrWorn (KeptWord word) UnlockedExpected p t x w) c.in-Worn.is d) in
      (k.0, k.1, subst (λ (l : List ℕ). HasKeyIn g.K.Kind.layout l key) (sym k.2) has);
  settled = λ worn. tt;
}
