use Rattle.vm_bytes_script.proofs.calls.KeyCallsCallSyntax.texts_tell_calls.Goals as goal
use Rattle.vm_bytes_script.proofs.KeyLines.{tells}

pub returns : goal.returns
returns c = tells
