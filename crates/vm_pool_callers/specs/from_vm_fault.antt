-- Definitions of vm_fault that the crates above name through this one.
pub use Rattle.vm_pool.specs.from_vm_fault.Fetches
