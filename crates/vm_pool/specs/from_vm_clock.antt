-- Definitions of vm_clock that the crates above name through this one.
pub use Rattle.vm_clock.specs.Clock
