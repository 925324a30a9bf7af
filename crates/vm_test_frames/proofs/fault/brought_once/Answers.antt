use Rattle.std.proofs.Common.{◌<◌, ◌∙◌, ◌≡◌, ◌≢◌, ap, arith, List, true, ℕ}
use Rattle.vm_owner.proofs.NumberLemmas.{has-without_other}
use Rattle.vm_rule.specs.Prelude.{has, without}
use Rattle.vm_step.specs.Prelude.{view}
use Rattle.vm_test_frames.proofs.fault.brought_once.Goals as goal

-- the first frame went to the page, and the second is left
second-left : (fs gs : List ℕ) → gs ≡ without 0 fs → has 1 fs ≡ true → has 1 gs ≡ true
second-left fs gs e h = let other : 1 ≢ 0 = λ (z : 1 ≡ 0). omega (arith, z) in ap (has 1) e ∙ has-without_other 0 1 fs other ∙ h

some-frame : (n : ℕ) → n ≡ 2 → 1 < n
some-frame n e = omega (arith, e)

pub fault_in-again-requires-clause-frame : goal.fault_in-again-requires-clause-frame
fault_in-again-requires-clause-frame g c = (
  some-frame _ c.in_ok-words.ensures.frames,
  second-left (view c.take_both.new.pass).frames
      (view c.fault_in.new.pass).frames c.in-Brought.ensures.fetched.frames c.take_both.ensures.holds.1,
)
