-- Definitions of vm_evict that the crates above name through this one.
pub use Rattle.vm_evict.specs.Evictions
pub use Rattle.vm_evict.specs.Flushes
pub use Rattle.vm_evict.specs.Tables
pub use Rattle.vm_evict.specs.declared.candidate.Stage as declared_candidate_Stage
pub use Rattle.vm_evict.specs.declared.candidate.Stage.TheVariants as declared_candidate_Stage_TheVariants
pub use Rattle.vm_evict.specs.declared.flushing.Flushed as declared_flushing_Flushed
pub use Rattle.vm_evict.specs.declared.report.Report as declared_report_Report
