use Rattle.vm_tree_laws.proofs.Claims.{claims_keep}
use Rattle.vm_tree_laws.proofs.kept.claims_keep.Goals as goal

pub returns : goal.returns
returns c = claims_keep
