-- Lemmas of vm_guard that the crates above name through this one.
pub use Rattle.vm_kind.proofs.from_vm_guard.FreeBits
pub use Rattle.vm_kind.proofs.from_vm_guard.FreeSure
pub use Rattle.vm_kind.proofs.from_vm_guard.FreshAnswers
pub use Rattle.vm_kind.proofs.from_vm_guard.FreshNone
pub use Rattle.vm_kind.proofs.from_vm_guard.FreshSure
pub use Rattle.vm_kind.proofs.from_vm_guard.Freshly
pub use Rattle.vm_kind.proofs.from_vm_guard.Groups
pub use Rattle.vm_kind.proofs.from_vm_guard.GuardSteps
pub use Rattle.vm_kind.proofs.from_vm_guard.QuietSteps
pub use Rattle.vm_kind.proofs.from_vm_guard.Reading
pub use Rattle.vm_kind.proofs.from_vm_guard.Searching
