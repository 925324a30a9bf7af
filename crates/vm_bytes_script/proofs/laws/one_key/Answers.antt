use Rattle.vm_bytes_script.proofs.laws.one_key.Goals as goal
use Rattle.vm_bytes_script.proofs.Keys.{one_key}

pub returns : goal.returns
returns c = one_key
