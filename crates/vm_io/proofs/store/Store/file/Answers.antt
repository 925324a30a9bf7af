use Rattle.std.proofs.Common.{ap, sym, ◌∙◌, Some}
use Rattle.vm_io.proofs.Places.{found_bytes}
use Rattle.vm_io.proofs.store.Store.file.Goals as goal

pub returns-in-Some : goal.returns-in-Some
returns-in-Some c = ap (λ b. Some b) c.as_slice.ensures.value
    ∙ sym (found_bytes _ _ _ _ (rw c.deref.ensures.value at c.in-Some.ensures) c.index.ensures)
