use Rattle.vm_supply.proofs.kinds.block.block_out_is_no_event.Goals as goal
use Rattle.vm_supply.proofs.steps.Block.{shifted_same, taken_same}

pub returns-clause-taken : goal.returns-clause-taken
returns-clause-taken g c start s id p found b v w = taken_same _ start _ _ _ s id p found b v w

pub returns-clause-emptied : goal.returns-clause-emptied
returns-clause-emptied g c start s id p found b v w = shifted_same _ start _ _ _ s id p _ _ found b v w
