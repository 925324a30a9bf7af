-- Where no failure is planned, no call is answered by a fault of a device, and the last flush writes every page.
use Rattle.std.proofs.Common.{[], ◌≡◌, arith, List, None, Option, refl, Result, Some, ℕ}
use Rattle.std.proofs.lemmas.Bool.{eq-eqb}
use Rattle.vm_rule.specs.Prelude.{MemBlock}
use Rattle.vm_drive.specs.from_vm_evict.declared_flushing_Flushed.{Flushed}
use Rattle.vm_drive.specs.from_vm_pool.declared_ended_Ended.{Ended}
use Rattle.vm_drive.specs.from_vm_tree_rule.declared_fault_TreeFault.{TreeFault}
use Rattle.vm_drive.specs.Lists.{all_faults_of}
use Rattle.vm_serve.specs.{Served.is_first, Served.IsServedFrom, Serving.Serving}

no-page : (first : Option ℕ) → ((p : ℕ) → is_first first p ≡ 0) → first ≡ None
no-page None f = refl
no-page (Some q) f = let here : is_first (Some q) q ≡ 1 = rw (eq-eqb q q refl) refl in absurd (omega (arith, f q, here))

module _ {X C R : Type 0} (s : Serving X C R) {U : Type 0} (pages : List (List ℕ)) (lists : List (List C))
    (replies : List (List (Result R TreeFault))) (report : Flushed) (blocks : List (MemBlock s.layout.words))
    (end : Ended U X) (is : IsServedFrom s pages [] lists replies report blocks end) where
  pub no_faults : (p : ℕ) → all_faults_of p replies ≡ 0
  no_faults p = omega (arith, is.on.noted p, is.planned p)

  pub all_flushed : report.first ≡ None
  all_flushed = no-page report.first (λ p. omega (arith, is.on.noted p, is.planned p))
