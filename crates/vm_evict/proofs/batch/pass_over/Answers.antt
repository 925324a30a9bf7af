use Rattle.std.proofs.Common.{rules}
use Rattle.vm_evict.proofs.Gathering.{each-at}
use Rattle.vm_evict.proofs.Passing.{back-more, front-more, passed-more, passed-none}
use Rattle.vm_evict.proofs.Prelude.{arith, length, length-set, refl, view, ◌∙◌}
use Rattle.vm_supply.proofs.from_vm_step.Going.{goes-then}
use Rattle.vm_evict.proofs.batch.pass_over.Goals as goal

pub loop-i-init : goal.loop-i-init
loop-i-init g c = record {
  goes = record { same = (refl, refl); ready = c.requires.ready };
  passed = λ v done h. passed-none c.args.phase c.args.list.now c.requires.list.apart c.args.stages.now done v (view c.args.pass.now) h;
  long = c.told-stages;
  front = λ j b. absurd (omega (arith, b));
  back = λ j le b. c.requires.begins j b;
}

pub loop-i-preserved : goal.loop-i-preserved
loop-i-preserved g c =
    let inv = c.loop-i.invariant in
    let now = inv.passed c.requires.way.0 c.requires.way.1 c.requires.way.2 in
    let one = c.advance.ensures.moved c.requires.way.0 _ (now.after.each c.loop-i.i c.loop-i-test.true) in
    record {
      goes = goes-then inv.goes c.advance.ensures.goes;
      passed = λ v done h.
          passed-more c.args.phase c.args.list.now c.requires.list.apart c.loop-i.stages done v (view c.loop-i.pass)
          (inv.passed v done h) c.loop-i.i c.loop-i-test.true (omega (arith, c.requires.few, inv.long))
          c.advance.result (view c.advance.new.pass)
          (λ all at. c.advance.ensures.moved v all at) (λ j up b. inv.back j (omega (arith, up)) b);
      long = length-set c.loop-i.stages c.loop-i.i c.advance.result ∙ inv.long;
      front = front-more c.args.phase c.loop-i.stages c.loop-i.i c.advance.result
          (omega (arith, c.loop-i-test.true, c.requires.few, inv.long)) one.ends inv.front;
      back = back-more c.args.phase c.loop-i.stages c.loop-i.i c.advance.result (length c.args.list.now) inv.back;
    }

pub returns-clause-passed : goal.returns-clause-passed
returns-clause-passed g c = c.loop-i.invariant.passed

pub returns-clause-way : goal.returns-clause-way
returns-clause-way g c = (c.requires.way.0, _, (c.loop-i.invariant.passed c.requires.way.0 c.requires.way.1 c.requires.way.2).after)

pub returns-clause-ends : goal.returns-clause-ends
returns-clause-ends g c = λ j b. c.loop-i.invariant.front j (omega (arith, b, c.loop-i-test.false))

pub bounds-stages-i : goal.bounds-stages-i
bounds-stages-i g c = omega (arith, c.loop-i-test.true, c.requires.few)

pub bounds-stages-i-in-loop-i : goal.bounds-stages-i-in-loop-i
bounds-stages-i-in-loop-i g c = omega (arith, c.loop-i-test.true, c.requires.few)

pub advance-requires : goal.advance-requires
advance-requires g c = record {
  ready = search rules;
  sized = c.requires.sized;
  size = c.requires.size;
  candidate = each-at _ c.args.list.now c.loop-i.i c.loop-i-test.true c.requires.list.each;
  home = (c.loop-i.invariant.passed c.requires.way.0 c.requires.way.1 c.requires.way.2).after.home;
  begins = c.loop-i.invariant.back c.loop-i.i (omega arith) c.loop-i-test.true;
  at = (
    c.requires.way.0,
    _,
    (c.loop-i.invariant.passed c.requires.way.0 c.requires.way.1 c.requires.way.2).after.each
        c.loop-i.i c.loop-i-test.true,
  );
}
