use Rattle.vm_event.specs.Prelude.{EVICTED, word_of}
use Rattle.vm_group_step.proofs.release.release_group_evicted.Goals as goal
use Rattle.vm_group_step.proofs.Placed.{stored-placed}
use Rattle.vm_group_step.specs.Heads.{pages_under}
use Rattle.vm_step.proofs.Over.{stored-allows}
use Rattle.vm_step.proofs.Prelude.{EvictTold, ReleaseTells, subst, view, ◌+◌, ℕ}
use Rattle.vm_step.proofs.steps.ReleaseOver.{release_evicted-over}
use Rattle.vm_step.specs.Over.{InTurn}

pub store-requires-clause-allows : goal.store-requires-clause-allows
store-requires-clause-allows g c =
    let tells = λ (q : ℕ). ReleaseTells g.U.Owner.keeps g.B.Block.tells q (EvictTold q c.args.version) in
    let pages = pages_under c.args.words.now.table.shared.key c.args.h in
    stored-placed g.B.Block.stored g.U.Owner.keeps g.U.Owner.tied c.args.words.now.table.shared.key g.B.Block.tells _ _ _
    (λ _. InTurn (λ q _. tells q) pages c.of-new.result)
    c.args.h (word_of EVICTED (c.args.version + 1)) _ _ c.state_place-at.ensures.is c.of-new.ensures
    (stored-allows g.B.Block.stored g.U.Owner.keeps g.U.Owner.tied c.args.words.now.table.shared.key g.B.Block.tells _ _ _ c.args.h
    (λ _. word_of EVICTED (c.args.version + 1)) tells pages c.of-new.result
    (release_evicted-over _ _ _ g.U.Owner.may_release g.U.Owner.releases g.U.Owner.numbers _ _ _ _ _ c.args.h c.args.version c.args.pass.now.live
    c.requires.pass.1 c.requires.head.page c.requires.below c.requires.legal c.requires.head.own))

pub returns-clause-told : goal.returns-clause-told
returns-clause-told g c =
    subst (λ n. InTurn (λ q _. ReleaseTells g.U.Owner.keeps g.B.Block.tells q (EvictTold q c.args.version))
    (pages_under c.args.words.now.table.shared.key c.args.h) n (view c.args.pass.now) (view c.store.new.pass)) c.of-new.ensures
    c.store.ensures.told.1
