use Rattle.std.proofs.Common.{◌<◌, ◌∙◌, ◌≡◌, get_or, length, subst, sym, ℕ}
use Rattle.vm_bytes_calls.specs.from_vm_calls.declared_worker_Worker.{Worker}
use Rattle.vm_bytes_calls.specs.{KeyAnswers.KeepsKeyAnswers, KeyCalls.key_calls}
use Rattle.vm_drive.specs.{Crews.HasWorked, Drives.items_of, Holds.list_at}
use Rattle.vm_drive.proofs.Crews.{idle-at, idle-long, items-long, worked-all}
use Rattle.vm_bytes_drive.proofs.driving.work_all.Goals as goal

pub for_each_mut-requires-clause-accepts : goal.for_each_mut-requires-clause-accepts
for_each_mut-requires-clause-accepts g c κs within = λ i p l e.
    let long : length c.args.lists.now ≡ length c.args.workers.now = sym (items-long c.args.lists.now)
    ∙ idle-long _ _ _ _ _ _ _ _ c.requires.idle in
    let inside : i < length c.args.lists.now = subst (λ n. i < n) (sym long) l in
    ((inside, c.requires.lists.1), (c.requires.askable, idle-at _ _ _ _ _ _ _ _ i p.now c.requires.idle l e))

pub returns : goal.returns
returns g c =
    let shape = c.args.pool.now.words.table.shared.key in
    let t = c.args.pool.now.words.table.shared.table_id in
    let lists = items_of c.args.lists.now in
    worked-all key_calls KeepsKeyAnswers shape g.B.Block.tells t lists c.args.workers.now c.for_each_mut.new.s
    (idle-long _ _ _ _ _ _ _ _ c.requires.idle) c.for_each_mut.auto.s
    (λ (i : ℕ) (d : Worker _ _ _ _ _) (l : i < length c.args.workers.now).
    let at = (c.for_each_mut.ensures i d l).1 in
    let left : HasWorked key_calls KeepsKeyAnswers shape g.B.Block.tells t (list_at lists i) at.argument.now
    (get_or c.for_each_mut.new.s i d) =
    subst (λ (n : Worker _ _ _ _ _). HasWorked key_calls KeepsKeyAnswers shape g.B.Block.tells t (list_at lists i)
    at.argument.now n) at.left at.call in
    subst (λ (o : Worker _ _ _ _ _). HasWorked key_calls KeepsKeyAnswers shape g.B.Block.tells t (list_at lists i) o
    (get_or c.for_each_mut.new.s i d)) at.argument_is left)
