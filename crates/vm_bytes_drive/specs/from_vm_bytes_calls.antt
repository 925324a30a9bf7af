-- Definitions of vm_bytes_calls that the crates above name through this one.
pub use Rattle.vm_bytes_calls.specs.KeyAnswers
pub use Rattle.vm_bytes_calls.specs.KeyCalls
pub use Rattle.vm_bytes_calls.specs.declared.answers.KeyReplies as declared_answers_KeyReplies
pub use Rattle.vm_bytes_calls.specs.declared.answers.KeyShort as declared_answers_KeyShort
pub use Rattle.vm_bytes_calls.specs.declared.answers.KeyShort.TheVariants as declared_answers_KeyShort_TheVariants
