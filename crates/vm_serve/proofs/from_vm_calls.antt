-- Lemmas of vm_calls that the crates above name through this one.
pub use Rattle.vm_drive.proofs.from_vm_calls.Answering
pub use Rattle.vm_drive.proofs.from_vm_calls.Doing
pub use Rattle.vm_drive.proofs.from_vm_calls.Keeping
pub use Rattle.vm_drive.proofs.from_vm_calls.Lists
pub use Rattle.vm_drive.proofs.from_vm_calls.Plainly
