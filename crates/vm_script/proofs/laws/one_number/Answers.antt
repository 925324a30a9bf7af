use Rattle.std.proofs.lemmas.Fmt.{decimal_injective}
use Rattle.vm_script.proofs.laws.one_number.Goals as goal

pub returns : goal.returns
returns c = λ m n small small' same. decimal_injective m n small small' same
