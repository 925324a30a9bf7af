use Rattle.vm_group_step.proofs.share.unshare_group.Goals as goal
use Rattle.vm_group_step.proofs.Placed.{placed}
use Rattle.vm_group_step.specs.Heads.{pages_under}
use Rattle.vm_step.proofs.Prelude.{UnshareTold, ◌%◌, ◌+◌, ◌-◌, ◌^◌}
use Rattle.vm_step.proofs.steps.Share.{unlock_shared-over}
use Rattle.vm_step.specs.Over.{InTurn}

pub fetch_sub-requires-clause-allows : goal.fetch_sub-requires-clause-allows
fetch_sub-requires-clause-allows g c =
    placed g.B.Block.stored g.U.Owner.keeps g.U.Owner.tied c.args.words.now.table.shared.key g.B.Block.tells _ _ _
    (InTurn UnshareTold (pages_under c.args.words.now.table.shared.key c.args.h)) c.args.h _ (λ n. (n + (2 ^ 64 - 2 ^ 56)) % 2 ^ 64) c.state_place-at.ensures.is
    (unlock_shared-over _ _ _ _ _ _ _ _ c.args.h c.args.pass.now.live c.requires.pass.1
    c.requires.head.page c.requires.legal c.requires.head.own)
