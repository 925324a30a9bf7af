-- The cause of a stop, as it is counted from an earlier call on.
use Rattle.std.proofs.Common.{◌≤◌, arith, Err, ℕ}
use Rattle.vm_page.specs.Counts.{count_more}
use Rattle.vm_io.specs.Causes.{Rose}
use Rattle.vm_reading.specs.from_vm_endings.declared_stop_Stop.{Stop}
use Rattle.vm_reading.specs.from_vm_endings.{declared_undone_Undone_TheVariants.Memory, declared_undone_Undone_TheVariants.Stopped}
use Rattle.vm_reading.specs.from_vm_endings.{declared_undone_Undone.Undone, Endings.HasReadCause}

rose-before : (before between now : ℕ) → before ≤ between → Rose between now → Rose before now
unfolding count_more
rose-before before between now later rose = omega (arith, later, rose)

-- a cause that was found behind an earlier call is one from before that call on
pub earlier-cause : (before between now : ℕ) (undone : Undone Stop) → before ≤ between
    → HasReadCause {V = ℕ} between now (Err undone) → HasReadCause {V = ℕ} before now (Err undone)
earlier-cause before between now Memory later cause = tt
earlier-cause before between now (Stopped stop) later cause = λ two. rose-before before between now later (cause two)
