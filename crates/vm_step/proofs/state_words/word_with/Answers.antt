use Rattle.vm_step.proofs.Prelude.{arith, version-within}
use Rattle.vm_step.proofs.state_words.word_with.Goals as goal

pub of-requires : goal.of-requires
of-requires c = rw c.version.ensures (omega (arith, version-within c.args.word))
