use Rattle.std.proofs.Common.{◌≤◌, ◌^◌, arith}
use Rattle.vm_build.proofs.Apart.{numbered_apart}
use Rattle.vm_build.proofs.seed.numbered.Goals as goal

pub returns-clause-apart : goal.returns-clause-apart
returns-clause-apart c =
    rw c.loop-place.invariant.0
    (numbered_apart c.args.seed c.loop-place.place (let few : c.loop-place.place ≤ 2 ^ 64 = omega arith in few))
