use Rattle.vm_numbers.proofs.Steps.{claim_keeps}
use Rattle.vm_numbers.proofs.claims_keep.Goals as goal

pub returns : goal.returns
returns c = claim_keeps
