-- Lemmas of vm_guard that the crates above name through this one.
pub use Rattle.vm_guard.proofs.Amid
pub use Rattle.vm_guard.proofs.FreeBits
pub use Rattle.vm_guard.proofs.FreeSure
pub use Rattle.vm_guard.proofs.FreshAnswers
pub use Rattle.vm_guard.proofs.FreshNone
pub use Rattle.vm_guard.proofs.FreshSure
pub use Rattle.vm_guard.proofs.Freshly
pub use Rattle.vm_guard.proofs.Groups
pub use Rattle.vm_guard.proofs.GuardSteps
pub use Rattle.vm_guard.proofs.PageLoads
pub use Rattle.vm_guard.proofs.QuietSteps
pub use Rattle.vm_guard.proofs.Reading
pub use Rattle.vm_guard.proofs.Searching
pub use Rattle.vm_guard.proofs.Starting
pub use Rattle.vm_guard.proofs.Unmarking
