use Rattle.vm_cli.proofs.Agreement.{two_endings}
use Rattle.vm_cli.proofs.laws.endings_agree.Goals as goal

pub returns : goal.returns
returns c = two_endings
