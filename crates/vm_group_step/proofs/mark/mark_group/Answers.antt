use Rattle.vm_group_step.proofs.mark.mark_group.Goals as goal
use Rattle.vm_group_step.proofs.Placed.{exchange-placed}
use Rattle.vm_group_step.specs.Heads.{pages_under}
use Rattle.vm_step.proofs.Prelude.{MARKED, MarkTold, subst, sym, view, version_of, word_of}
use Rattle.vm_step.proofs.steps.Mark.{mark-over}
use Rattle.vm_step.specs.Over.{InTurn}

pub compare_exchange-requires-clause-allows : goal.compare_exchange-requires-clause-allows
compare_exchange-requires-clause-allows g c =
    exchange-placed g.B.Block.stored g.U.Owner.keeps g.U.Owner.tied c.args.words.now.table.shared.key g.B.Block.tells _ _ _
    (InTurn (λ q n v w. MarkTold q c.args.expects n (word_of MARKED (version_of c.args.expects)) v w)
    (pages_under c.args.words.now.table.shared.key c.args.h))
    c.args.h c.args.expects (word_of MARKED (version_of c.args.expects)) _ _ c.state_place-at.ensures.is c.word_with-new.ensures
    (mark-over _ _ _ _ _ _ _ _ c.args.h c.args.expects c.args.pass.now.live c.requires.pass.1
    c.requires.head.page c.requires.legal c.requires.head.own)

pub returns-clause-told : goal.returns-clause-told
returns-clause-told g c =
    subst (λ n. (InTurn (λ q n v w. MarkTold q c.args.expects n (word_of MARKED (version_of c.args.expects)) v w)
    (pages_under c.args.words.now.table.shared.key c.args.h)) n
    (view c.args.pass.now) (view c.compare_exchange.new.pass)) (sym c.answer.ensures.word)
    c.compare_exchange.ensures.told.1
