-- Definitions of vm_churn that the crates above name through this one.
pub use Rattle.vm_endings.specs.from_vm_churn.Calls
pub use Rattle.vm_endings.specs.from_vm_churn.Tallies
pub use Rattle.vm_endings.specs.from_vm_churn.declared_tally_Tally
