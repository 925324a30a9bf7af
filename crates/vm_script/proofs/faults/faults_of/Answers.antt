use Rattle.vm_script.proofs.faults.faults_of.Goals as goal
use Rattle.vm_script.proofs.Plans.{all_read, bad_entry, bad_last}

pub returns-in_default-fault_of : goal.returns-in_default-fault_of
returns-in_default-fault_of c = bad_entry c.args.word.now c.entries.rest.now _ _ c.entries.plan.items
    c.entries.invariant c.in-Some.ensures c.in_default-fault_of.ensures

pub returns-in_default-fault_of-2 : goal.returns-in_default-fault_of-2
returns-in_default-fault_of-2 c = bad_last c.args.word.now c.entries.rest.now c.entries.plan.items c.entries.invariant
    c.in_default.ensures c.in_default-fault_of-2.ensures

pub returns : goal.returns
returns c = rw c.in_ok-push-2.ensures.items
    (all_read c.args.word.now c.entries.rest.now c.entries.plan.items c.in-Some-fault_of-2.last c.entries.invariant
    c.in-Some-fault_of-2.ensures.0 c.in-Some-fault_of-2.ensures.1)
