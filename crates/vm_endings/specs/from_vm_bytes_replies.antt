-- Definitions of vm_bytes_replies that the crates above name through this one.
pub use Rattle.vm_bytes_replies.specs.KeyLines
