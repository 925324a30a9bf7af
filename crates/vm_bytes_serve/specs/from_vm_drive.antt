-- Definitions of vm_drive that the crates above name through this one.
pub use Rattle.vm_serve.specs.from_vm_drive.Drives
pub use Rattle.vm_serve.specs.from_vm_drive.Lists
