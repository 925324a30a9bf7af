use Rattle.std.proofs.Common.{rules}
use Rattle.vm_handover.proofs.Steps.{opens}
use Rattle.vm_handover.proofs.making.handover.Goals as goal

pub load-requires : goal.load-requires
load-requires g c = (search rules, search rules, opens g.T.Handed.keeps _ _ _ c.args.about.now _ c.in_ok-table.ensures.4)
