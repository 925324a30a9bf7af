-- Workers that need no memory have it, as many as there are.
use Rattle.std.proofs.Common.{[], ◌∷◌, ◌≡◌, arith, length, List}
use Rattle.vm_bytes_laws.specs.declared.call.KeyCall.{KeyCall}
use Rattle.vm_drive.specs.Lists.{HaveMemory}
use Rattle.vm_bytes_drive.specs.Drives.{NeedsNone}

pub no-memory : {M : Type 0} (lists : List (List KeyCall)) (memories : List M) → length memories ≡ length lists
    → HaveMemory NeedsNone lists memories
no-memory [] [] e = tt
no-memory [] (m ∷ ms) e = absurd (omega arith)
no-memory (c ∷ cs) [] e = absurd (omega arith)
no-memory (c ∷ cs) (m ∷ ms) e = (tt, no-memory cs ms (omega arith))
