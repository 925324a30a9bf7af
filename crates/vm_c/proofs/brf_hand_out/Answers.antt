use Rattle.std.proofs.Common.{None, Some, subst, sym}
use Rattle.vm_c.specs.Given.{GivesHand}
use Rattle.vm_c.proofs.Taking.{given-as}
use Rattle.vm_c.proofs.brf_hand_out.Goals as goal

pub returns-in-Ok-clause-given : goal.returns-in-Ok-clause-given
returns-in-Ok-clause-given c = λ none.
    given-as c.args.store.now.value c.put-2.new.self.value c.put-in-Ok.new.self.value (Some c.in-Ok.held.value) c.in-Some-take.open.value
    c.deref_mut.result.now c.give-given.new.open 0 c.in-Some-take.ensures.taken c.deref_mut.ensures.value c.put-2.ensures c.put-in-Ok.ensures
    c.in-Ok.ensures.given

pub returns-in-Err-clause-given : goal.returns-in-Err-clause-given
returns-in-Err-clause-given c = λ none.
    given-as c.args.store.now.value c.put-2.new.self.value c.take.new.self.value None c.in-Some-take.open.value c.deref_mut.result.now
    c.give-given.new.open c.hand_refusal_of.result c.in-Some-take.ensures.taken c.deref_mut.ensures.value c.put-2.ensures c.take.ensures.none
    (subst (λ n. GivesHand c.deref_mut.result.now c.give-given.new.open None n) (sym c.hand_refusal_of.ensures) c.in-Err.ensures.refused)
