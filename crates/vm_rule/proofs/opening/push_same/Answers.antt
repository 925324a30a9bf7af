use Rattle.vm_rule.proofs.{ListFacts.listed-none, ListFacts.pushed-listed, Prelude.refl}
use Rattle.vm_rule.proofs.opening.push_same.Goals as goal

pub loop-i-init : goal.loop-i-init
loop-i-init c = listed-none _ _

pub loop-i-preserved : goal.loop-i-preserved
loop-i-preserved c = pushed-listed _ _ _ _ _ _ c.loop-i.invariant c.in_ok-push.ensures.items refl
