-- Definitions of vm_bytes_drive that the crates above name through this one.
pub use Rattle.vm_bytes_replies.specs.from_vm_bytes_drive.Drives
