use Rattle.vm_supply.proofs.kinds.block.block_home_brings_its_event.Goals as goal
use Rattle.vm_supply.proofs.steps.Block.{either_way, idle_shows, read-event, read_failed-event, shifted_same}
use Rattle.vm_supply.proofs.steps.Block.{write_failed-event, wrote-event}

pub returns-clause-lifted : goal.returns-clause-lifted
returns-clause-lifted g c start s id p found b v w = shifted_same _ start _ _ _ s id p _ _ found b v w

pub returns-clause-idle : goal.returns-clause-idle
returns-clause-idle g c start s id p found old b v w = idle_shows _ start _ _ _ s id p found old b v w

pub returns-clause-read : goal.returns-clause-read
returns-clause-read g c start s id p found old b v w = read-event _ start _ _ _ s id p found old b v w

pub returns-clause-wrote : goal.returns-clause-wrote
returns-clause-wrote g c start s id p found old b v w = wrote-event _ start _ _ _ s id p found old b v w

pub returns-clause-read_failed : goal.returns-clause-read_failed
returns-clause-read_failed g c start s id p found old b v w = read_failed-event _ start _ _ _ s id p found old b v w

pub returns-clause-write_failed : goal.returns-clause-write_failed
returns-clause-write_failed g c start s id p found old b v w = write_failed-event _ start _ _ _ s id p found old b v w

pub returns-clause-either : goal.returns-clause-either
returns-clause-either g c start s id p old v = either_way _ start _ _ _ s id p old v
