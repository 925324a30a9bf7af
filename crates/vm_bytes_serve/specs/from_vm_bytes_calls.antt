-- Definitions of vm_bytes_calls that the crates above name through this one.
pub use Rattle.vm_bytes_history.specs.from_vm_bytes_calls.KeyAnswers
pub use Rattle.vm_bytes_history.specs.from_vm_bytes_calls.declared_answers_KeyReplies
pub use Rattle.vm_bytes_history.specs.from_vm_bytes_calls.declared_answers_KeyShort
pub use Rattle.vm_bytes_history.specs.from_vm_bytes_calls.declared_answers_KeyShort_TheVariants
