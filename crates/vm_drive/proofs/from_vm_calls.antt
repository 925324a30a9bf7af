-- Lemmas of vm_calls that the crates above name through this one.
pub use Rattle.vm_calls.proofs.Answering
pub use Rattle.vm_calls.proofs.Doing
pub use Rattle.vm_calls.proofs.Keeping
pub use Rattle.vm_calls.proofs.Lists
pub use Rattle.vm_calls.proofs.Plainly
