-- Whatever a range of the tree answers, the pass has its block at home as before; and a try asks for no frame.
use Rattle.std.proofs.Common.{◌*◌, ◌≡◌, ◌≤◌, arith, Err, IfErr, IfOk, List, None, Ok, Result, ℕ}
use Rattle.vm_page.specs.Sizes.{IsSize}
use Rattle.vm_map.specs.{declared.call.Call.Call, declared.call.Reply.Reply, declared.call.Said.Said}
use Rattle.vm_map.specs.{declared.window.Bound.Bound, Map.Pairs}
use Rattle.vm_tree_model.specs.{Fixed.capacity, Layout.Layout}
use Rattle.vm_tree_model.proofs.FixedLaws.{size_is}
use Rattle.vm_rule.specs.Prelude.{LookTold}
use Rattle.vm_step.specs.Prelude.{AreHeld, Did, View}
use Rattle.vm_exmap.proofs.Handing.{held-on}
use Rattle.vm_guard.specs.Quiet.{IsQuiet}
use Rattle.vm_guard.proofs.QuietSteps.{look-quiet}
use Rattle.vm_tree_laws.specs.Tied.{Tied}
use Rattle.vm_tree_rule.specs.declared.fault.TreeFault.{TreeFault}
use Rattle.vm_tree_range.specs.{declared.hold.TryRange.TryRange, Ranges.HoldsOn, Ranges.IsRangeFaulted}
use Rattle.vm_tree_range.specs.{Ranges.IsRangeReplied, Ranges.IsTriedRange}
use Rattle.vm_tree_range.proofs.Ranging.{tried-on}

-- what a call leaves that asks for no frame and moves no block
pub record Rests {X : Type 0} (v w : View X) : Type 0 where
  pub out : w.out ≡ v.out
  pub start : w.start ≡ v.start
  pub frames : w.frames ≡ v.frames

pub rests-held : {X : Type 0} (frames : List ℕ) (v w : View X) → AreHeld frames v → Rests v w → AreHeld frames w
rests-held frames v w h r = held-on frames v w h r.start r.frames

-- a look at a page
pub look-rests : {X : Type 0} (L : Layout) (p found : ℕ) (v w : View X) → LookTold (Tied L) p None found v w → Rests v w
look-rests L p found v w told = let q = look-quiet (Tied L) p found v w told in record {
  out = q.steady.out;
  start = q.steady.start;
  frames = q.steady.frames.0;
}

-- the pairs of sixteen leaves of either size have room in the span
pub has-room : (n room : ℕ) → IsSize n → 4032 ≤ room → capacity n * 16 ≤ room
has-room n room sized fits = size_is (λ m. capacity m * 16 ≤ room) n sized (omega (arith, fits)) (omega (arith, fits))

-- a call that reads one page
pub quiet-on : {X : Type 0} (p : ℕ) (done : List Did) (v w : View X) → IsQuiet p done v w → HoldsOn v w
quiet-on p done v w q = record {
  holds = q.holds;
  knows = q.knows;
  seen = q.steady.seen;
  releases = q.steady.releases;
  log = (done, q.steady.log);
  notes = q.steady.notes;
  frames = q.steady.frames;
  out = q.steady.out;
  group = q.group;
  numbers = q.numbers;
  start = q.steady.start;
  parts = q.steady.parts;
  alone = q.alone;
}

-- What is said may speak of keys in its own way; `plain` reads it with a number for each key
module _ {S : Type 0} (plain : S → Said) (L : Layout) where
  pub range-rests : (low : ℕ) (bound : Bound) (answer : TryRange) (out : Pairs × ℕ) (v w : View S)
      → IsTriedRange plain L low bound answer out v w → Rests v w
  range-rests low bound answer out v w t = let h = tried-on plain L low bound answer out v w t in record {
    out = h.out;
    start = h.start;
    frames = h.frames.0;
  }

  pub ranged-home : (call : Call) (low : ℕ) (bound : Bound) (r : Result Reply TreeFault) (v w : View S)
      → IfOk r (λ reply. IsRangeReplied plain L (record {
        call = call;
        reply = reply;
      }) v w) → IfErr r (λ fault. IsRangeFaulted L low bound fault v w) → w.out ≡ v.out
  ranged-home call low bound (Ok reply) v w a b = a.out
  ranged-home call low bound (Err fault) v w a b = b.leaves.out
