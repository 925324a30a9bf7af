use Rattle.vm_exmap.proofs.Prelude.{in_mask, is_of, take, ℕ, ◌≡◌}
use Rattle.vm_exmap.proofs.bits.mask_of.Given as goal

-- the bits of the first frames
abbrev pub invariant-loop-frame : goal.invariant-loop-frame
invariant-loop-frame l = (f : ℕ) → in_mask l.g l.mask f ≡ is_of l.g (take l.frame-index l.frames) f
