use Rattle.vm_build.proofs.Period.{numbers_differ}
use Rattle.vm_build.proofs.laws.numbers_in_a_row_differ.Goals as goal

pub returns : goal.returns
returns c = λ seed i j _ same from below. numbers_differ seed i j same from below
