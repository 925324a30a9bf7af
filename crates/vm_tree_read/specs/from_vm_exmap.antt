-- Definitions of vm_exmap that the crates above name through this one.
pub use Rattle.vm_pool.specs.from_vm_exmap.Frames
pub use Rattle.vm_pool.specs.from_vm_exmap.Returns
pub use Rattle.vm_pool.specs.from_vm_exmap.Walks
pub use Rattle.vm_pool.specs.from_vm_exmap.declared_interface_Alloc
pub use Rattle.vm_pool.specs.from_vm_exmap.declared_interface_Alloc_TheVariants
