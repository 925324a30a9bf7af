-- Definitions of vm_bytes_calls that the crates above name through this one.
pub use Rattle.vm_bytes_replies.specs.from_vm_bytes_calls.KeyAnswers
pub use Rattle.vm_bytes_replies.specs.from_vm_bytes_calls.declared_answers_KeyReplies
