use Rattle.vm_replay.proofs.laws.one_replay.Goals as goal
use Rattle.vm_replay.proofs.OnePlay.{one_played}

pub returns : goal.returns
returns c = one_played
