use Rattle.vm_script.proofs.calls.WordCallsCallSyntax.texts_tell_calls.Goals as goal
use Rattle.vm_script.proofs.Orders.{lacks_call, one_call}

pub returns : goal.returns
returns c = record { one_line = lacks_call; one_call = one_call }
