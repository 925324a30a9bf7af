-- Definitions of vm_evict that the crates above name through this one.
pub use Rattle.vm_tree_join.specs.from_vm_evict.declared_report_Report
