use Rattle.vm_script.proofs.faults.fault_of.Goals as goal
use Rattle.vm_script.proofs.Plans.{cut_fault, no_fault}

pub returns-in_default : goal.returns-in_default
returns-in_default c = λ fault is e. no_fault _ fault c.in_default.ensures e

pub returns-in_default-number_of : goal.returns-in_default-number_of
returns-in_default-number_of c =
    λ fault is e. c.in_default-number_of.ensures fault.page is.page (cut_fault _ _ _ fault c.in-Some.ensures is e).0

pub returns-in_default-number_of-2 : goal.returns-in_default-number_of-2
returns-in_default-number_of-2 c = λ fault is e. c.in_default-number_of-2.ensures fault.number is.number
    (cut_fault _ _ _ fault c.in-Some.ensures is e).1
