use Rattle.vm_clock.proofs.Prelude.{candidate_pages, false, has, take, ◌≡◌}
use Rattle.vm_clock.proofs.met.is_chosen.Given as goal

-- the page is none of the first i
abbrev pub invariant-loop-i : goal.invariant-loop-i
invariant-loop-i l = has l.p (candidate_pages (take l.i l.list)) ≡ false
