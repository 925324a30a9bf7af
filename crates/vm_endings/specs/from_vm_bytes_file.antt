-- Definitions of vm_bytes_file that the crates above name through this one.
pub use Rattle.vm_bytes_file.specs.KeyFiles
