-- What the proofs above cite of one worker's calls, passed on from one place, so that they need not use those crates themselves.
pub use Rattle.vm_calls.proofs.Doing.{notes-both}
pub use Rattle.vm_calls.proofs.Tracing.{found-later, max-later}
pub use Rattle.vm_calls.specs.Called.{FoundFull, FoundWorn}
pub use Rattle.vm_calls.proofs.Answering.{word_laws}
pub use Rattle.vm_calls.proofs.Plainly.{plain-keeps}
