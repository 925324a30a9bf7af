-- Definitions of vm_clock that the crates above name through this one.
pub use Rattle.vm_pool.specs.from_vm_clock.Clock
