-- A leaf's tag is its first word.
use Rattle.std.proofs.Common.{◌≡◌, ◌≢◌, ℕ, nat_eq, true, false, arith}
use Rattle.std.proofs.lemmas.Bool.Decides.{nat_tests}
use Rattle.vm_node.proofs.Telling.{told_word, told_so}
use Rattle.vm_node.proofs.leaf.is_leaf_at.Goals as goal

tells_tag : (tag word : ℕ) → tag ≡ word → (nat_eq word 2 ≡ true → tag ≡ 2) × (nat_eq word 2 ≡ false → tag ≢ 2)
tells_tag tag word read = (λ yes. grind (arith, nat_tests), λ no. λ is. grind (arith, nat_tests))

pub returns-clause-told : goal.returns-clause-told
returns-clause-told g c = told_so (omega arith) (told_word c.word.ensures.loads) (λ words size read. tells_tag _ _ read)
