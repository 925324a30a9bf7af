use Rattle.std.proofs.Common.{rules, ◌∙◌, arith}
use Rattle.std.proofs.lemmas.Grind.{common_steps}
use Rattle.vm_image.proofs.NewBlocks.{fresh_more}
use Rattle.vm_image.proofs.blocks.blocks_of.Goals as goal

pub loop-p-preserved : goal.loop-p-preserved
loop-p-preserved g c = (
  grind (arith, common_steps, c.in_ok-new.ensures.began.held),
  search rules,
  fresh_more c.loop-p.blocks.items _ _ c.args.image.now c.args.plan.now c.loop-p.p _ c.as_slice.result.now
      c.in_ok-push.ensures.items c.loop-p.invariant.1 (c.copy_from.ensures.words ∙ c.page.ensures.page) (search rules)
      c.in_ok-new.ensures c.loop-p.invariant.2,
)
