-- Definitions of vm_exmap that the crates above name through this one.
pub use Rattle.vm_exmap.specs.Frames
pub use Rattle.vm_exmap.specs.Returns
pub use Rattle.vm_exmap.specs.Walks
pub use Rattle.vm_exmap.specs.declared.interface.Alloc as declared_interface_Alloc
pub use Rattle.vm_exmap.specs.declared.interface.Alloc.TheVariants as declared_interface_Alloc_TheVariants
pub use Rattle.vm_exmap.specs.declared.interface.Interface as declared_interface_Interface
