-- Definitions of vm_churn that the crates above name through this one.
pub use Rattle.vm_churn.specs.Calls
pub use Rattle.vm_churn.specs.Tallies
pub use Rattle.vm_churn.specs.declared.tally.Tally as declared_tally_Tally
