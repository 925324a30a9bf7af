use Rattle.vm_workers.proofs.puts.work.Goals as goal
use Rattle.vm_workers.proofs.Putting.{nothing-moved, parts-then}

pub returns : goal.returns
returns g c =
    let before = c.loop-k.invariant in
    let moves = c.give_all.ensures.given.moves in
    record {
      done = record {
        may = record {
          ready = c.give_all.ensures.goes.ready;
          nothing = nothing-moved _ _ _ moves before.1.nothing;
          held = record { apart = tt; inside = tt; held = tt };
        };
        parts = parts-then _ _ _ before.2 (record { start = moves.start; used = moves.parts.0; fresh = moves.parts.1 });
      };
    }
