pub mod KeyCalls
pub mod KeyAnswers
pub mod from_vm_calls
