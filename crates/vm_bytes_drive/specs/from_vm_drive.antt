-- Definitions of vm_drive that the crates above name through this one.
pub use Rattle.vm_drive.specs.Drives
pub use Rattle.vm_drive.specs.Holds
pub use Rattle.vm_drive.specs.Lists
pub use Rattle.vm_drive.specs.Prelude
