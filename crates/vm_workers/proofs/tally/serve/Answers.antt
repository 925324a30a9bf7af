use Rattle.std.proofs.Common.{◌<◌, ◌∙◌, ◌≡◌, arith, length, length-set}
use Rattle.vm_workers.proofs.Staying.{found-all, found-more, says-on}
use Rattle.vm_workers.proofs.tally.serve.Goals as goal

pub loop-i-preserved : goal.loop-i-preserved
loop-i-preserved g c =
    let inv = c.loop-i.invariant in
    let same = c.call.ensures.goes.same in
    let inside : c.loop-i.i < length c.args.calls.now = c.loop-i-test.true in
    let room : length c.loop-i.replies ≡ length c.args.calls.now = inv.3 in (
      (same.0 ∙ inv.0.0, same.1 ∙ inv.0.1),
      c.call.ensures.goes.ready,
      says-on _ _ _ inv.2 c.call.ensures.says,
      length-set c.loop-i.replies c.loop-i.i c.call.result ∙ inv.3,
      found-more c.loop-i.i c.args.calls.now c.loop-i.replies c.call.result _ _ _ inv.4 c.call.ensures.found (omega (arith, inside, room)),
    )

pub returns-clause-found : goal.returns-clause-found
returns-clause-found g c = found-all c.loop-i.i _ _ _ _ _ (omega (arith, c.loop-i-test.false, c.loop-i.auto.i-end)) c.loop-i.invariant.4
