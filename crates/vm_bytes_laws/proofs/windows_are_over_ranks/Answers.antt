use Rattle.vm_bytes_laws.proofs.KeyShown.{shows_first}
use Rattle.vm_bytes_laws.proofs.windows_are_over_ranks.Goals as goal

pub returns : goal.returns
returns c = shows_first
