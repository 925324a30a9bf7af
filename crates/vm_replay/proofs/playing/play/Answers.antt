use Rattle.std.proofs.Common.{arith}
use Rattle.vm_replay.proofs.Lines.{done_of, place_done, shape_done}
use Rattle.vm_replay.proofs.playing.play.Goals as goal

pub loop-line-preserved : goal.loop-line-preserved
loop-line-preserved c =
    let done = done_of _ _ _ _ _ _ _ c.in-Done.events c.in-Done.is c.in_ok-events.ensures in
    record {
      told = place_done c.args.shape c.args.groups.now c.args.lines.now _ _ _ _ c.loop-line.line-index _ _ _ _ c.loop-line-test.true
          c.loop-line.invariant.told done;
      shape = shape_done _ _ _ _ _ _ _ c.args.shape done c.loop-line.invariant.shape;
      number = omega (arith, c.loop-line.invariant.number);
      count = omega (arith, c.loop-line.invariant.count, done.few);
    }
