-- Definitions of vm_pool that the crates above name through this one.
pub use Rattle.vm_pool.specs.Brings
pub use Rattle.vm_pool.specs.Closing
pub use Rattle.vm_pool.specs.Parting
pub use Rattle.vm_pool.specs.Sweeps
pub use Rattle.vm_pool.specs.declared.bring.Bring as declared_bring_Bring
pub use Rattle.vm_pool.specs.declared.bring.Bring.TheVariants as declared_bring_Bring_TheVariants
pub use Rattle.vm_pool.specs.declared.ended.Ended as declared_ended_Ended
