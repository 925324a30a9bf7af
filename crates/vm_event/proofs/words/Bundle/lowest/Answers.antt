use Rattle.std.specs.Int.{bit_at}
use Rattle.std.proofs.Common.{◌+◌, ◌<◌, ◌∙◌, ◌≡◌, arith, bit_and, refl, sym}
use Rattle.std.proofs.lemmas.Nat.{one_shl}
use Rattle.std.proofs.lemmas.Nat.Bits.{bit_at-lt, shr_and_one}
use Rattle.vm_event.specs.Prelude.{sum_below}
use Rattle.vm_event.proofs.WordBits.{lowest-below, sum-next}
use Rattle.vm_event.proofs.words.Bundle.lowest.Goals.{else-word-i-eq1, then-word-i-eq1}
use Rattle.vm_event.proofs.words.Bundle.lowest.Goals as goal

pub loop-i-init : goal.loop-i-init
unfolding sum_below
loop-i-init c = record { counted = refl; few = omega arith }

pub returns-then-count-n : goal.returns-then-count-n
returns-then-count-n c =
    rw (one_shl c.loop-i.i 64 (omega (arith, c.loop-i-test.true)))
    (lowest-below c.args.word c.args.n c.loop-i.i (omega (arith, c.loop-i-test.true)) (sym c.loop-i.invariant.counted ∙ c.if-count-n.true))

pub loop-i-preserved : goal.loop-i-preserved
loop-i-preserved c =
    let next : sum_below (c.loop-i.i + 1) (bit_at c.args.word) ≡ sum_below c.loop-i.i (bit_at c.args.word) + bit_at
    c.args.word c.loop-i.i = sum-next c.args.word c.loop-i.i in
    let bit : bit_and _ 1 ≡ bit_at c.args.word c.loop-i.i = shr_and_one c.args.word c.loop-i.i in
    let small : bit_at c.args.word c.loop-i.i < 2 = bit_at-lt c.args.word c.loop-i.i in
    elim c.if-word-i-eq1.branch [
      | then-word-i-eq1 w ↦ record {
        counted = omega (arith, next, bit, w.count-is, w.if-word-i-eq1, c.loop-i.invariant.counted);
        few = omega (arith, w.count-is, c.loop-i.invariant.few, c.if-count-n.false);
      }
      | else-word-i-eq1 w ↦ record {
        counted = omega (arith, next, bit, small, w.count-is, w.if-word-i-eq1, c.loop-i.invariant.counted);
        few = omega (arith, w.count-is, c.loop-i.invariant.few);
      }
    ]
