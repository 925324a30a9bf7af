use Rattle.std.proofs.Common.{List, subst, sym, ℕ}
use Rattle.vm_tree_merge.specs.from_vm_step.Prelude.{UnlockedExpected}
use Rattle.vm_tree_merge.specs.from_vm_guard.Denied.{AgainOrWorn, IsDenied, KeptWord}
use Rattle.vm_tree_merge.specs.from_vm_kind.Room.{HasRoomFor}
use Rattle.vm_tree_merge.specs.from_vm_tree_split.Prepares.{SaysWorn}
use Rattle.vm_tree_write.specs.Writes.{HasKeyIn, HasValueIn}
use Rattle.vm_tree_write.proofs.Telling.{not-locked, to-try, worn-leaf}
use Rattle.vm_tree_write.proofs.write.unwritten.Goals as goal

pub returns-in-Again : goal.returns-in-Again
returns-in-Again g c = record {
  put = λ key value p word frame page v x w o a read leaf more d. not-locked g.K.Kind.layout p word frame key _ v x w
      o (subst (λ t. IsDenied AgainOrWorn (KeptWord word) UnlockedExpected p t x w) c.in-Again.is d);
  del = λ key p word frame page v x w o a read leaf more d. to-try g.K.Kind.layout key _ v w
      (not-locked g.K.Kind.layout p word frame key _ v x w o
      (subst (λ t. IsDenied AgainOrWorn (KeptWord word) UnlockedExpected p t x w) c.in-Again.is d));
  swap = λ key want value p word frame page v x w o a read leaf more d. not-locked g.K.Kind.layout p word frame key _
      v x w o (subst (λ t. IsDenied AgainOrWorn (KeptWord word) UnlockedExpected p t x w) c.in-Again.is d);
  settled = λ reply worn. subst SaysWorn c.in-Again.is worn;
}

pub returns-in-Worn : goal.returns-in-Worn
returns-in-Worn g c = record {
  put = λ key value p word frame page v x w o a read leaf room d. let k = worn-leaf g.K.Kind.layout p _ word frame key
      page v x w o a read leaf
      (subst (λ t. IsDenied AgainOrWorn (KeptWord word) UnlockedExpected p t x w) c.in-Worn.is d) in
      (k.0, k.1, subst (λ (l : List ℕ). HasRoomFor g.K.Kind.layout g.K.Kind.spare l key) (sym k.2) room);
  del = λ key p word frame page v x w o a read leaf has d. let k = worn-leaf g.K.Kind.layout p _ word frame key page v
      x w o a read leaf (subst (λ t. IsDenied AgainOrWorn (KeptWord word) UnlockedExpected p t x w) c.in-Worn.is d) in
      (k.0, k.1, subst (λ (l : List ℕ). HasKeyIn g.K.Kind.layout l key) (sym k.2) has);
  swap = λ key want value p word frame page v x w o a read leaf has d. let k =
      worn-leaf g.K.Kind.layout p _ word frame key page v x w o a read leaf
      (subst (λ t. IsDenied AgainOrWorn (KeptWord word) UnlockedExpected p t x w) c.in-Worn.is d) in
      (k.0, k.1, subst (λ (l : List ℕ). HasValueIn g.K.Kind.layout l key want) (sym k.2) has);
  settled = λ reply worn. tt;
}
