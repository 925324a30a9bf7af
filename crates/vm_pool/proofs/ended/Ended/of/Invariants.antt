use Rattle.vm_pool.proofs.Prelude.{min, sum_by, take, ◌-◌, ◌^◌, ◌≡◌}
use Rattle.vm_pool.proofs.ended.Ended.of.Given as goal

abbrev pub invariant-loop-block : goal.invariant-loop-block
invariant-loop-block g l =
    (l.reads ≡ min (sum_by (λ b. (g.B.Block.stored b).reads) (take l.block-index l.blocks)) (2 ^ 64 - 1))
    × (l.writes ≡ min (sum_by (λ b. (g.B.Block.stored b).writes) (take l.block-index l.blocks)) (2 ^ 64 - 1))
    × (l.faults ≡ min (sum_by (λ b. (g.B.Block.stored b).count) (take l.block-index l.blocks)) (2 ^ 64 - 1))
