use Rattle.vm_group_step.proofs.look.look_group.Goals as goal
use Rattle.vm_group_step.proofs.Placed.{placed}
use Rattle.vm_group_step.specs.Heads.{pages_under}
use Rattle.vm_step.proofs.Prelude.{None}
use Rattle.vm_step.proofs.steps.Look.{look_silently-over}
use Rattle.vm_step.specs.Over.{InTurn}
use Rattle.vm_step.specs.steps.Look.{LookTells}

pub load-requires-clause-allows : goal.load-requires-clause-allows
load-requires-clause-allows g c =
    placed g.B.Block.stored g.U.Owner.keeps g.U.Owner.tied c.args.words.now.table.shared.key g.B.Block.tells _ _ _
    (InTurn (λ q. LookTells g.U.Owner.keeps g.U.Owner.tied g.B.Block.tells q None)
    (pages_under c.args.words.now.table.shared.key c.args.h)) c.args.h _ (λ n. n) c.state_place-at.ensures.is
    (look_silently-over _ _ _ _ g.U.Owner.may_read g.U.Owner.reads g.U.Owner.ties _ _ _ _ c.args.h c.args.pass.now.live c.requires.pass.1
    c.requires.head.page c.requires.head.own)
