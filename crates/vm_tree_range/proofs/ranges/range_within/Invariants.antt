use Rattle.std.proofs.Common.{◌≡◌}
use Rattle.vm_step.specs.Prelude.{View}
use Rattle.vm_tree_read.specs.Waiting.{HasRounds, Waits}
use Rattle.vm_tree_read.proofs.Rounds.{HasTried}
use Rattle.vm_tree_range.specs.Ranges.{IsRangeRound}
use Rattle.vm_tree_range.proofs.ranges.range_within.Given as goal

-- so many rounds were made, none of them was answered, and no pair is left of those tried
abbrev pub invariant-rounds : goal.invariant-rounds
invariant-rounds g l = record {
  tried : HasTried (λ (x y : View _). Waits x y
      × HasRounds (IsRangeRound g.K.Kind.layout (g.K.Kind.rank l.fn.low) l.fn.bound) l._made x y) l.pool.words g.B.Block.tells
      l.fn.pass l.pass l.fn.iface l.iface;
  same : l.out ≡ l.fn.out;
}
