use Rattle.vm_bytes_form.proofs.Halves.{pays}
use Rattle.vm_bytes_form.proofs.halves_are_paid.Goals as goal

pub returns : goal.returns
returns c = pays
