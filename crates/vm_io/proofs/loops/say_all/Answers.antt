use Rattle.std.proofs.Common.{arith, rules, length-drop}
use Rattle.std.proofs.lemmas.List.{take_rest}
use Rattle.vm_io.proofs.Fronts.{said_more}
use Rattle.vm_io.proofs.loops.say_all.Goals as goal

pub saying-preserved : goal.saying-preserved
saying-preserved g c = record {
  within = let h = rw take_rest at c.in-Ok.ensures.bound in omega (arith, length-drop c.saying.at c.args.bytes.now);
  said = said_more _ _ _ _ _ _ c.saying.invariant.said (rw take_rest at c.in-Ok.ensures.bytes);
  later = record { failed = omega arith; stuck = omega arith };
  apart = search rules;
}
