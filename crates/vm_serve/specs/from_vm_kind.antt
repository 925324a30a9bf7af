-- Definitions of vm_kind that the crates above name through this one.
pub use Rattle.vm_drive.specs.from_vm_kind.WordRoom
