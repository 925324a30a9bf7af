-- Definitions of vm_calls that the crates above name through this one.
pub use Rattle.vm_calls.specs.declared.worker.Worker as declared_worker_Worker
