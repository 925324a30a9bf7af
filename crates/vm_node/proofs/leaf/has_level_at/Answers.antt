-- The level is word 5.
use Rattle.std.proofs.Common.{◌≡◌, ◌≢◌, ℕ, nat_eq, true, false, arith}
use Rattle.std.proofs.lemmas.Bool.Decides.{nat_tests}
use Rattle.vm_node.proofs.Telling.{told_word, told_so}
use Rattle.vm_node.proofs.leaf.has_level_at.Goals as goal

tells_level : (level word wanted : ℕ) → level ≡ word → (nat_eq word wanted ≡ true → level ≡ wanted) × (nat_eq word wanted ≡ false → level ≢ wanted)
tells_level level word wanted read = (λ yes. grind (arith, nat_tests), λ no. λ is. grind (arith, nat_tests))

pub returns-clause-told : goal.returns-clause-told
returns-clause-told g c = told_so (omega arith) (told_word c.word.ensures.loads) (λ words size read. tells_level _ _ c.args.level read)
