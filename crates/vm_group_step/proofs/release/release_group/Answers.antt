use Rattle.vm_group_step.proofs.release.release_group.Goals as goal
use Rattle.vm_group_step.proofs.Placed.{placed}
use Rattle.vm_group_step.specs.Heads.{pages_under}
use Rattle.vm_step.proofs.Over.{stored-allows}
use Rattle.vm_step.proofs.Prelude.{option_map, ◌+◌}
use Rattle.vm_step.proofs.steps.ReleaseOver.{release-over}
use Rattle.vm_step.specs.{Over.InTurn, steps.Release.ReleaseTellsOf}

pub store-requires-clause-allows : goal.store-requires-clause-allows
store-requires-clause-allows g c =
    let tells = ReleaseTellsOf g.U.Owner.keeps g.B.Block.tells c.args.h c.args.version c.args.rest.now (option_map (λ b. b.now) c.args.said) in
    let pages = pages_under c.args.words.now.table.shared.key c.args.h in
    placed g.B.Block.stored g.U.Owner.keeps g.U.Owner.tied c.args.words.now.table.shared.key g.B.Block.tells _ _ _
    (λ _. InTurn (λ q _. tells q) pages (c.args.version + 1)) c.args.h _ (λ _. c.args.version + 1) c.state_place-at.ensures.is
    (stored-allows g.B.Block.stored g.U.Owner.keeps g.U.Owner.tied c.args.words.now.table.shared.key g.B.Block.tells _ _ _ c.args.h (λ _. c.args.version + 1) tells pages
    (c.args.version + 1)
    (release-over _ _ _ g.U.Owner.may_release g.U.Owner.releases g.U.Owner.numbers _ _ _ _ _ c.args.h c.args.version _ _ c.args.pass.now.live
    c.requires.pass.1 c.requires.head.page c.requires.below c.requires.legal c.requires.head.own))
