use Rattle.std.proofs.Common.{subst, sym}
use Rattle.vm_map.specs.declared.call.Reply.TheVariants.{Swapped}
use Rattle.vm_map.specs.declared.call.Swap.{Swap as Outcome}
use Rattle.vm_tree_merge.specs.from_vm_step.Prelude.{view}
use Rattle.vm_tree_write.specs.declared.write.TryWrite.TheVariants as tries
use Rattle.vm_tree_write.specs.Writes.{IsSwap}
use Rattle.vm_tree_write.proofs.write.try_swap.Goals as goal

pub returns-in-Done-clause-tried : goal.returns-in-Done-clause-tried
returns-in-Done-clause-tried g c =
    subst (λ (o : Outcome). IsSwap g.K.Kind.plain g.K.Kind.layout (g.K.Kind.rank c.args.key.now) c.args.want
    c.args.value (tries.Done (Swapped o)) (view c.args.pass.now) (view c.swap_once.new.pass))
    (sym c.outcome.ensures) c.in-Done.ensures.tried
